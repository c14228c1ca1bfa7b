-- The payload of a record, from fragments as they are read.
use Rattle.std.specs.Prelude.{ℕ, ◌+◌, ◌-◌, List, [], ◌∷◌, ◌++◌, length, take, drop, replicate}
use Rattle.std.specs.List.{flat_map}
use Rattle.zone_bay.specs.Contents.{Contents}
use Rattle.array_model.specs.Payload.{Fragment}
use Rattle.marker_format.specs.Fragment.{fragment_at}
use Rattle.array_model.specs.Drives.{bytes_at}
use Rattle.array_scan.specs.declared.set_read.Carrier.{Carrier}
use Rattle.array_scan.specs.declared.set_read.RecordAt.{RecordAt}
use Rattle.array_scan.specs.SetRead.{place_of}

-- the first f bytes, or all with zeros behind them
abbrev pub resized : ℕ → List ℕ → List ℕ
resized f bytes = take f bytes ++ replicate (f - length bytes) 0

-- what the carrier holds as its fragment of the record, in f bytes
abbrev pub fragment_held : Contents → RecordAt → ℕ → Carrier → List ℕ
fragment_held held at f carrier = resized f (fragment_at (bytes_at held (place_of carrier.place)) (at.block + 1) at.marker.fragment)

-- the same of carriers, one behind the other
abbrev pub fragments_held : Contents → RecordAt → ℕ → List Carrier → List ℕ
fragments_held held at f carriers = flat_map (fragment_held held at f) carriers

-- fragments of f bytes each, which have these indexes
abbrev pub given_of : ℕ → List ℕ → List ℕ → List Fragment
given_of f [] bytes = []
given_of f (index ∷ have) bytes = record { index = index; bytes = take f bytes } ∷ given_of f have (drop f bytes)
