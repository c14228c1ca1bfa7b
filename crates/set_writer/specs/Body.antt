-- Where the fragments of a record's payload are had from.
use Rattle.std.specs.Prelude.{◌≡◌, ℕ, List, [], take}
use Rattle.rs_code.specs.Coded.{KeepsFragments}
use Rattle.set_writer.specs.declared.body.Body.{Body}
use Rattle.set_writer.specs.declared.record.Record.{Record}
use Rattle.set_writer.specs.Entry.{Entry}
use Rattle.set_writer.specs.declared.body.Body.TheVariants.{Empty, Whole, Pieces}

-- the payload
abbrev pub payload_of : Body → List ℕ
payload_of Empty = []
payload_of (Whole coded) = coded.now.payload
payload_of (Pieces p) = take p.payload p.fragments.now

-- a record that is to be written
abbrev pub entry_of : Record → Entry
entry_of r = record { marker = r.marker.now; payload = payload_of r.body }

-- it is made into k source fragments and p of parity
abbrev pub IsBody : ℕ → ℕ → Body → Type 0
IsBody k p Empty = Unit {0}
IsBody k p (Whole coded) = (coded.now.k ≡ k) × (coded.now.p ≡ p)
IsBody k p (Pieces b) = KeepsFragments k p b.payload b.fragment b.fragments.now
