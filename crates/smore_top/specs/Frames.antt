-- The grammar of frames: which bytes spell which request, and how a reply is spelled.
use Rattle.std.specs.Prelude.{◌≡◌, ◌⊎◌, ℕ, ◌+◌, ◌<◌, ◌≤◌, ◌^◌, Bool, true, false, List, [], ◌∷◌, ◌++◌, length, map, ⊤}
use Rattle.std.specs.List.{All, flat_map}
use Rattle.std.specs.Int.{w16, w32, w64, to_be_bytes}
use Rattle.object_machine.specs.declared.op.Op.{Op}
use Rattle.object_machine.specs.declared.op.Op.TheVariants.{Put, Get, Delete, List as ListNames}
use Rattle.object_machine.specs.declared.reply.Reply.{Reply}
use Rattle.object_machine.specs.declared.reply.Reply.TheVariants.{Done, Object, NotFound, Names, Refused}
use Rattle.object_machine.specs.declared.reply.Refusal.{Refusal}
use Rattle.object_machine.specs.declared.reply.Refusal.TheVariants.{Memory, NameBad, TooLarge, Full, TooFewFragments, Spent, Damaged}
use Rattle.object_machine.specs.declared.machine.Entry.{Entry}
use Rattle.object_machine.specs.Coding.{Coding, IsMadeFor}
use Rattle.smore_top.specs.declared.frame_numbers.TheConstants as numbers
use Rattle.smore_top.specs.declared.request.Request.{Request}
use Rattle.smore_top.specs.declared.request.Request.TheVariants.{Call, Stop}

-- the bytes of a body's length, and the body
abbrev pub frame : List ℕ → List ℕ
frame body = to_be_bytes w32 (length body) ++ body

-- two bytes of length, and the name
abbrev pub name_field : List ℕ → List ℕ
name_field name = to_be_bytes w16 (length name) ++ name

-- ---- requests

-- a tag, and the fields behind it
abbrev pub op_body : Op → List ℕ
op_body (Put name object) = numbers.PUT_TAG ∷ name_field name ++ object.bytes
op_body (Get name) = numbers.GET_TAG ∷ name_field name
op_body (Delete name) = numbers.DELETE_TAG ∷ name_field name
op_body (ListNames after limit) = numbers.LIST_TAG ∷ name_field after ++ to_be_bytes w16 limit

abbrev pub request_body : Request → List ℕ
request_body (Call op) = op_body op
request_body Stop = numbers.STOP_TAG ∷ []

-- a name's length and a limit fit their two bytes
abbrev pub FitsFields : Op → Type 0
FitsFields (Put name object) = length name < 2 ^ 16
FitsFields (Get name) = length name < 2 ^ 16
FitsFields (Delete name) = length name < 2 ^ 16
FitsFields (ListNames after limit) = (length after < 2 ^ 16) × (limit < 2 ^ 16)

-- a request that has a spelling; the object of a call is cut and coded as those of the store are
abbrev pub HasSpelling : Coding → Request → Type 0
HasSpelling coding (Call op) = FitsFields op × IsMadeFor coding op
HasSpelling coding Stop = ⊤

-- the body is that of the request
abbrev pub IsSpelledBy : Coding → List ℕ → Request → Type 0
IsSpelledBy coding body request = (body ≡ request_body request) × HasSpelling coding request

-- The bytes are the frame of the request.
pub record Spells (coding : Coding) (bytes : List ℕ) (request : Request) : Type 0 where
  pub spelled : bytes ≡ frame (request_body request)
  pub has : HasSpelling coding request
  pub small : length (request_body request) ≤ numbers.MAX_BODY_BYTES

-- No frame stands at the front of the bytes.
abbrev pub StartsNoFrame : Coding → List ℕ → Type 0
StartsNoFrame coding bytes = (front rest : List ℕ) (request : Request) → Spells coding front request → bytes ≡ front ++ rest → ⊥

-- the frames of these calls, in order, are the bytes
abbrev pub SpellsCalls : Coding → List ℕ → List Op → Type 0
SpellsCalls coding bytes [] = bytes ≡ []
SpellsCalls coding bytes (op ∷ ops) = (front : List ℕ) × (rest : List ℕ) × (bytes ≡ front ++ rest) × Spells coding front (Call op) × SpellsCalls coding rest ops

-- The end, or a Stop, behind which anything may stand.
abbrev pub EndsFrames : Coding → List ℕ → Type 0
EndsFrames coding rest = (rest ≡ []) ⊎ ((stop : List ℕ) × (after : List ℕ) × (rest ≡ stop ++ after) × Spells coding stop Stop)

-- whole frames: those of calls, and then the end or a Stop
abbrev pub AreWholeFrames : Coding → List ℕ → Type 0
AreWholeFrames coding bytes = (ops : List Op) × (calls : List ℕ) × (rest : List ℕ) × (bytes ≡ calls ++ rest) × SpellsCalls coding calls ops × EndsFrames coding rest

-- ---- replies

-- a refusal's number, and its two values
abbrev pub refusal_fields : Refusal → ℕ × ℕ × ℕ
refusal_fields Memory = (numbers.MEMORY_NUMBER, 0, 0)
refusal_fields (NameBad n) = (numbers.NAME_BAD_NUMBER, n, 0)
refusal_fields (TooLarge n) = (numbers.TOO_LARGE_NUMBER, n, 0)
refusal_fields (Full need room) = (numbers.FULL_NUMBER, need, room)
refusal_fields (TooFewFragments of_set missing) = (numbers.TOO_FEW_FRAGMENTS_NUMBER, of_set, missing)
refusal_fields Spent = (numbers.SPENT_NUMBER, 0, 0)
refusal_fields (Damaged upload part) = (numbers.DAMAGED_NUMBER, upload, part)

abbrev pub refusal_body : ℕ × ℕ × ℕ → List ℕ
refusal_body fields = numbers.REFUSED_TAG ∷ fields.0 ∷ to_be_bytes w64 fields.1 ++ to_be_bytes w64 fields.2

-- whether others follow
abbrev pub more_byte : Bool → ℕ
more_byte true = 1
more_byte false = 0

-- names, one behind the other
abbrev pub name_fields : List (List ℕ) → List ℕ
name_fields names = flat_map name_field names

abbrev pub reply_body : Reply → List ℕ
reply_body (Refused why) = refusal_body (refusal_fields why)
reply_body Done = numbers.DONE_TAG ∷ []
reply_body (Object bytes) = numbers.OBJECT_TAG ∷ bytes
reply_body NotFound = numbers.NOT_FOUND_TAG ∷ []
reply_body (Names names more) = numbers.NAMES_TAG ∷ more_byte more ∷ to_be_bytes w16 (length names) ++ name_fields names

abbrev pub reply_frame : Reply → List ℕ
reply_frame reply = frame (reply_body reply)

-- the number of names and the length of each fit their two bytes
abbrev pub FitsReplyFields : Reply → Type 0
FitsReplyFields (Names names more) = (length names < 2 ^ 16) × All (λ name. length name < 2 ^ 16) names
FitsReplyFields reply = ⊤

-- a reply that has a frame
pub record HasFrame (reply : Reply) : Type 0 where
  pub fits : FitsReplyFields reply
  pub small : length (reply_body reply) ≤ numbers.MAX_BODY_BYTES

-- the length of a body with so many bytes behind its tag, and the tag
abbrev pub frame_head : ℕ → ℕ → List ℕ
frame_head tag fields = to_be_bytes w32 (fields + 1) ++ tag ∷ []

-- ---- histories

-- the calls of a history, and the frames of its replies
abbrev pub ops_of : List Entry → List Op
ops_of entries = map (λ entry. entry.op) entries

abbrev pub reply_frames : List Entry → List ℕ
reply_frames entries = flat_map (λ entry. reply_frame entry.reply) entries
