-- The object of an upload, as it is read part by part.
use Rattle.std.proofs.Common.{◌≡◌, ℕ, suc, ◌+◌, ◌-◌, ◌<◌, cond, eqb, List, [], ◌++◌, length, Option, Some, None, IfSome, Result, Ok, Err, refl, sym, ap, ◌∙◌, arith, append_assoc, append-nil}
use Rattle.smore_base.specs.Objects as model
use Rattle.zone_bay.specs.Contents.{Contents}
use Rattle.zone_bay.specs.Bay.{BayState}
use Rattle.array_model.specs.Map.{joined, part_of, parts_from, object_by, object_of}
use Rattle.array_scan.specs.declared.records.ValidRecord.{ValidRecord}
use Rattle.array_scan.specs.Calls.{OnlyRead}
use Rattle.array_scan.specs.Judged.{Payloads}
use Rattle.array_scan.specs.Valid.{payload_with, items_with}
use Rattle.array_scan.specs.Scan.{payload_held}
use Rattle.array_scan.proofs.Calls.{told_at, told_from, read_nothing, read_then, same_held}

-- the payloads so far, and the rest behind them
abbrev pub behind : List ℕ → Result (List ℕ) ℕ → Result (List ℕ) ℕ
behind bytes (Ok rest) = Ok (bytes ++ rest)
behind bytes (Err part) = Err part

behind_none : (r : Result (List ℕ) ℕ) → r ≡ behind [] r
behind_none (Ok rest) = refl
behind_none (Err part) = refl

behind_joined : (bytes payload : List ℕ) (part : ℕ) (r : Result (List ℕ) ℕ) → behind bytes (joined (Some payload) part r) ≡ behind (bytes ++ payload) r
behind_joined bytes payload part (Ok rest) = ap Ok (sym (append_assoc bytes payload rest))
behind_joined bytes payload part (Err missing) = refl

-- the first so many parts were read
pub record PartsRead (k : ℕ) (before now : BayState) (records : List ValidRecord) (upload parts part : ℕ) (bytes : List ℕ) : Type 0 where
  pub read : OnlyRead before now None
  pub told : IfSome before.contents (λ held. let items = items_with (payload_held k held) records in parts_from items upload 0 parts ≡ behind bytes (parts_from items upload part (parts - part)))

pub read_none : (k : ℕ) (bay : BayState) (records : List ValidRecord) (upload parts : ℕ) → PartsRead k bay bay records upload parts 0 []
read_none k bay records upload parts = record {
  read = read_nothing bay;
  told = told_from bay.contents _ (λ held is.
      let items = items_with (payload_held k held) records in
      behind_none (parts_from items upload 0 parts) ∙ ap (λ n. behind [] (parts_from items upload 0 n)) (let e : parts ≡ parts - 0 = omega arith in e));
}

module _ (k : ℕ) (before mid : BayState) (records : List ValidRecord) (upload parts part : ℕ) (bytes : List ℕ) (below : part < parts) (so_far : PartsRead k before mid records upload parts part bytes) where
  next : (held : Contents) (o : Option (List ℕ)) → part_of upload part (items_with (payload_held k held) records) ≡ o
      → parts_from (items_with (payload_held k held) records) upload part (parts - part) ≡ joined o part (parts_from (items_with (payload_held k held) records) upload (part + 1) (parts - (part + 1)))
  next held o is =
      let items = items_with (payload_held k held) records in
      ap (parts_from items upload part) (let e : parts - part ≡ suc (parts - (part + 1)) = omega (arith, below) in e)
      ∙ ap (λ o. joined o part (parts_from items upload (part + 1) (parts - (part + 1)))) is

  pub read_more : (after : BayState) (v : ValidRecord) (payload new : List ℕ) → OnlyRead mid after None → ((payload : Payloads) → Some (payload_with payload v) ≡ part_of upload part (items_with payload records))
      → IfSome mid.contents (λ held. payload ≡ payload_held k held v.set.now.carriers.items v.at.now) → new ≡ bytes ++ payload → PartsRead k before after records upload parts (part + 1) new
  read_more after v payload new read found is added = record {
    read = read_then before mid after None so_far.read read;
    told = told_from before.contents _ (λ held held_is.
        let items = items_with (payload_held k held) records in
        let own = told_at mid.contents _ held (same_held before mid None so_far.read ∙ held_is) is in
        told_at before.contents _ held held_is so_far.told
        ∙ ap (behind bytes) (next held (Some payload) (sym (found (payload_held k held)) ∙ ap Some (sym own)))
        ∙ behind_joined bytes payload part (parts_from items upload (part + 1) (parts - (part + 1)))
        ∙ ap (λ l. behind l (parts_from items upload (part + 1) (parts - (part + 1)))) (sym added));
  }

  pub read_missing : (length : ℕ) → ((payload : Payloads) → None ≡ part_of upload part (items_with payload records)) → IfSome before.contents (λ held. model.Broken upload part ≡ object_of (items_with (payload_held k held) records) upload parts length)
  read_missing length none = told_from before.contents _ (λ held held_is.
      sym (ap (object_by upload parts length) (told_at before.contents _ held held_is so_far.told ∙ ap (behind bytes) (next held None (sym (none (payload_held k held)))))))

-- all parts were read
pub all_read : (k : ℕ) (before now : BayState) (records : List ValidRecord) (upload parts part len : ℕ) (bytes : List ℕ) → part ≡ parts → PartsRead k before now records upload parts part bytes
    → IfSome before.contents (λ held. object_of (items_with (payload_held k held) records) upload parts len ≡ cond (eqb (length bytes) len) (model.Whole bytes) (model.Broken upload parts))
all_read k before now records upload parts part len bytes all so_far = told_from before.contents _ (λ held is.
    let items = items_with (payload_held k held) records in
    ap (object_by upload parts len)
    (told_at before.contents _ held is so_far.told
    ∙ ap (λ n. behind bytes (parts_from items upload part n)) (let e : parts - part ≡ 0 = omega (arith, all) in e)
    ∙ ap Ok (append-nil bytes)))
