-- How the bytes of a frame's body are read, and what reading takes from a source.
use Rattle.std.specs.Prelude.{ℕ, nat_lt, ◌==◌, List, [], ◌∷◌, length, take, drop, Option, Some, None, option_and_then, option_map, if◌then◌else◌}
use Rattle.std.specs.Int.{w16, from_be_bytes}
use Rattle.rs_code.specs.Blob.{CutBytes}
use Rattle.object_machine.specs.declared.op.Op.TheVariants.{Put, Get, Delete, List as ListNames}
use Rattle.object_machine.specs.Coding.{Coding}
use Rattle.smore_top.specs.declared.frame_numbers.TheConstants as numbers
use Rattle.smore_top.specs.declared.request.Request.{Request}
use Rattle.smore_top.specs.declared.request.Request.TheVariants.{Call, Stop}

-- the bytes, cut and coded so
abbrev pub coded : Coding → List ℕ → CutBytes
coded coding bytes = record { bytes = bytes; k = coding.k; p = coding.p; shard = coding.shard }

-- a name and the bytes behind it
abbrev pub name_at : List ℕ → Option (List ℕ × List ℕ)
name_at [] = None
name_at (high ∷ []) = None
name_at (high ∷ low ∷ rest) =
    if nat_lt (length rest) (from_be_bytes w16 (high ∷ low ∷ [])) then None
    else Some (take (from_be_bytes w16 (high ∷ low ∷ [])) rest, drop (from_be_bytes w16 (high ∷ low ∷ [])) rest)

-- the object is all that is behind the name
abbrev pub put_of : Coding → List ℕ × List ℕ → Option Request
put_of coding field = Some (Call (Put field.0 (coded coding field.1)))

-- nothing is behind the name
abbrev pub get_of : List ℕ × List ℕ → Option Request
get_of field = if length field.1 == 0 then Some (Call (Get field.0)) else None

abbrev pub delete_of : List ℕ × List ℕ → Option Request
delete_of field = if length field.1 == 0 then Some (Call (Delete field.0)) else None

-- two bytes and no more
abbrev pub limit_of : List ℕ → Option ℕ
limit_of (high ∷ low ∷ []) = Some (from_be_bytes w16 (high ∷ low ∷ []))
limit_of bytes = None

-- the limit is behind the name
abbrev pub list_of : List ℕ × List ℕ → Option Request
list_of field = option_map (λ limit. Call (ListNames field.0 limit)) (limit_of field.1)

abbrev pub stop_of : List ℕ → Option Request
stop_of fields = if length fields == 0 then Some Stop else None

-- the request of a body
abbrev pub request_in : Coding → List ℕ → Option Request
request_in coding [] = None
request_in coding (tag ∷ fields) =
    if tag == numbers.PUT_TAG then option_and_then (put_of coding) (name_at fields)
    else if tag == numbers.GET_TAG then option_and_then get_of (name_at fields)
    else if tag == numbers.DELETE_TAG then option_and_then delete_of (name_at fields)
    else if tag == numbers.LIST_TAG then option_and_then list_of (name_at fields)
    else if tag == numbers.STOP_TAG then stop_of fields
    else None
