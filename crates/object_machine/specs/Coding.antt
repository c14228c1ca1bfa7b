-- How objects of calls are made.
use Rattle.std.specs.Prelude.{◌≡◌, ℕ, ⊤}
use Rattle.rs_code.specs.Blob.{CutBytes}
use Rattle.object_machine.specs.declared.op.Op.{Op}
use Rattle.object_machine.specs.declared.op.Op.TheVariants.{Put}

-- how objects are cut into parts and coded: how many source fragments and fragments of parity a part has, and how many
-- bytes a fragment has at most
pub record Coding : Type 0 where
  pub k : ℕ
  pub p : ℕ
  pub shard : ℕ

-- an object that is cut and coded so
pub record IsCodedFor (coding : Coding) (object : CutBytes) : Type 0 where
  pub k : object.k ≡ coding.k
  pub p : object.p ≡ coding.p
  pub shard : object.shard ≡ coding.shard

-- a call whose object, where it has one, is cut and coded so
abbrev pub IsMadeFor : Coding → Op → Type 0
IsMadeFor coding (Put name object) = IsCodedFor coding object
IsMadeFor coding op = ⊤
