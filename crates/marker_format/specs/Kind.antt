-- Kinds of records: their numbers, and which fields of a marker each kind uses.
use Rattle.std.specs.Prelude.{ℕ, Bool, true, false, ◌==◌, Option, Some, None, if◌then◌else◌}
use Rattle.marker_format.specs.declared.kind.Kind.{Kind}
use Rattle.marker_format.specs.declared.kind.Kind.TheVariants.{Head, Part, Put, Delete, Cut, Ready, Digest, Snapshot, Trailer}

-- the number of a kind
abbrev pub code_of : Kind → ℕ
code_of Head = 1
code_of Part = 2
code_of Put = 3
code_of Delete = 4
code_of Cut = 5
code_of Ready = 6
code_of Digest = 7
code_of Snapshot = 8
code_of Trailer = 9

-- the kind with this number
abbrev pub kind_of : ℕ → Option Kind
kind_of n =
    if n == 1 then Some Head
    else if n == 2 then Some Part
    else if n == 3 then Some Put
    else if n == 4 then Some Delete
    else if n == 5 then Some Cut
    else if n == 6 then Some Ready
    else if n == 7 then Some Digest
    else if n == 8 then Some Snapshot
    else if n == 9 then Some Trailer
    else None

-- these kinds have a stamp
abbrev pub has_stamp : Kind → Bool
has_stamp Put = true
has_stamp Delete = true
has_stamp Snapshot = true
has_stamp _ = false

-- these have an upload, or a cut's target in its place
abbrev pub has_upload : Kind → Bool
has_upload Part = true
has_upload Put = true
has_upload Cut = true
has_upload _ = false

-- these have a payload
abbrev pub has_payload : Kind → Bool
has_payload Part = true
has_payload Digest = true
has_payload Snapshot = true
has_payload _ = false

-- these have a name
abbrev pub has_name : Kind → Bool
has_name Put = true
has_name Delete = true
has_name _ = false

-- Positions count from 0. A head stands first, and a trailer's position is the number of records before it.
abbrev pub most_position : Kind → ℕ
most_position Head = 0
most_position Trailer = 65535
most_position _ = 65534
