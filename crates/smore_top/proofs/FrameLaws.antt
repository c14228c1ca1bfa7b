-- What is read is spelled so, what is spelled so is read, and no other bytes begin a frame.
use Rattle.std.proofs.Common.{◌≡◌, ℕ, ◌+◌, ◌<◌, ◌≤◌, ◌^◌, Bool, true, false, cond, nat_lt, ◌==◌, List, [], ◌∷◌, ◌++◌, length, take, drop, get_or, Option, Some, None, option_and_then, arith, refl, sym, ap, subst, ◌∙◌, append_assoc, length-append, length-take, take-append-drop, eqb-true, zero, suc, ◌⊎◌, inl, inr, lit<}
use Rattle.std.specs.Prelude.{if◌then◌else◌, option_map}
use Rattle.std.proofs.lemmas.Bool.{ltb-false, le-ltb}
use Rattle.std.specs.Int.{w16, w32, to_be_bytes, from_be_bytes}
use Rattle.std.proofs.lemmas.Nat.{be_bytes_2, from_be_bytes-to_be_bytes_2, from_be_bytes-to_be_bytes_4}
use Rattle.std.proofs.lemmas.List.{take_at, drop_at, nil_from_length, append-nil}
use Rattle.std.proofs.lemmas.Option.{option_and_then_some, cond_some, same_Some, none-some}
use Rattle.object_machine.specs.declared.op.Op.{Op}
use Rattle.object_machine.specs.declared.op.Op.TheVariants.{Put, Get, Delete, List as ListNames}
use Rattle.rs_code.specs.Blob.{CutBytes}
use Rattle.object_machine.specs.Coding.{Coding, IsCodedFor}
use Rattle.smore_top.specs.declared.frame_numbers.TheConstants as numbers
use Rattle.smore_top.specs.declared.request.Request.{Request}
use Rattle.smore_top.specs.declared.request.Request.TheVariants.{Call, Stop}
use Rattle.smore_top.specs.Frames.{frame, name_field, request_body, HasSpelling, IsSpelledBy, Spells, StartsNoFrame, SpellsCalls, EndsFrames}
use Rattle.smore_top.specs.Laws.{FramesAreApart}
use Rattle.smore_top.specs.Reading.{name_at, coded, put_of, get_of, delete_of, limit_of, list_of, stop_of, request_in}

abbrev pub IsBytes : List ℕ → Type 0
IsBytes bytes = (i : ℕ) → get_or bytes i 0 < 256

-- a test that says no, and one that says yes
guard_some : {A : Type 0} (b : Bool) (x y : A) → cond b None (Some x) ≡ Some y → (b ≡ false) × (x ≡ y)
guard_some true x y e = absurd (none-some y e)
guard_some false x y e = (refl, same_Some x y e)

chosen : {A : Type 0} (b : Bool) (x y z : A) → cond b x y ≡ z → ((b ≡ true) × (x ≡ z)) ⊎ ((b ≡ false) × (y ≡ z))
chosen true x y z e = inl (refl, e)
chosen false x y z e = inr (refl, e)

two_bytes : (high low : ℕ) (rest : List ℕ) → IsBytes (high ∷ low ∷ rest) → IsBytes (high ∷ low ∷ [])
two_bytes high low rest bytes zero = bytes 0
two_bytes high low rest bytes (suc zero) = bytes 1
two_bytes high low rest bytes (suc (suc i)) = lit< tt

-- what is made of an option is made of what it has
map_some : {A B : Type 0} {C : Type 0} (f : A → B) (o : Option A) (y : B) → option_map f o ≡ Some y → ((x : A) → o ≡ Some x → f x ≡ y → C) → C
map_some f None y e made = absurd (none-some y e)
map_some f (Some x) y e made = made x refl (same_Some (f x) y e)

get_or-behind : (front rest : List ℕ) (i : ℕ) → get_or (front ++ rest) (length front + i) 0 ≡ get_or rest i 0
get_or-behind [] rest i =
    let none : length {A = ℕ} [] + i ≡ i = omega arith in
    ap (λ (n : ℕ). get_or rest n 0) none
get_or-behind (x ∷ front) rest i =
    let one : length (x ∷ front) + i ≡ suc (length front + i) = omega arith in
    ap (λ (n : ℕ). get_or (x ∷ (front ++ rest)) n 0) one ∙ get_or-behind front rest i

-- Names.
name_found : (fields : List ℕ) (x : List ℕ × List ℕ) → IsBytes fields → name_at fields ≡ Some x → (fields ≡ name_field x.0 ++ x.1) × (length x.0 < 2 ^ 16)
name_found [] x bytes is = absurd (none-some x is)
name_found (high ∷ []) x bytes is = absurd (none-some x is)
name_found (high ∷ low ∷ rest) x bytes is =
    let n = from_be_bytes w16 (high ∷ low ∷ []) in
    let guarded = guard_some (nat_lt (length rest) n) (take n rest, drop n rest) x is in
    let long : length (take n rest) ≡ n = omega (arith, length-take n rest, ltb-false (length rest) n guarded.0) in
    let cells : to_be_bytes w16 (length (take n rest)) ≡ high ∷ low ∷ [] = be_bytes_2 (high ∷ low ∷ []) (length (take n rest)) refl (two_bytes high low rest bytes) long in
    let spelled : high ∷ low ∷ rest ≡ name_field (take n rest) ++ drop n rest =
    sym (append_assoc (to_be_bytes w16 (length (take n rest))) (take n rest) (drop n rest)
    ∙ ap (λ (l : List ℕ). to_be_bytes w16 (length (take n rest)) ++ l) (take-append-drop n rest)
    ∙ ap (λ (l : List ℕ). l ++ rest) cells) in
    subst (λ (y : List ℕ × List ℕ). (high ∷ low ∷ rest ≡ name_field y.0 ++ y.1) × (length y.0 < 2 ^ 16)) guarded.1 (spelled, omega (arith, long, bytes 0, bytes 1))

abbrev name_of_length : List ℕ → ℕ → Option (List ℕ × List ℕ)
name_of_length rest n = if nat_lt (length rest) n then None else Some (take n rest, drop n rest)

pub name_again : (name rest : List ℕ) → length name < 2 ^ 16 → name_at (name_field name ++ rest) ≡ Some (name, rest)
name_again name rest fits =
    ap (name_of_length (name ++ rest)) (from_be_bytes-to_be_bytes_2 (length name) fits)
    ∙ ap (λ b. cond b None (Some (take (length name) (name ++ rest), drop (length name) (name ++ rest)))) (le-ltb (length (name ++ rest)) (length name) (omega (arith, length-append name rest)))
    ∙ ap (λ (l : List ℕ). Some (l, drop (length name) (name ++ rest))) (take_at name rest (length name) refl)
    ∙ ap (λ (l : List ℕ). Some (name, l)) (drop_at name rest (length name) refl)

-- Limits.
limit_found : (bytes : List ℕ) (n : ℕ) → IsBytes bytes → limit_of bytes ≡ Some n → (bytes ≡ to_be_bytes w16 n) × (n < 2 ^ 16)
limit_found [] n fits is = absurd (none-some n is)
limit_found (high ∷ []) n fits is = absurd (none-some n is)
limit_found (high ∷ low ∷ []) n fits is =
    let value : from_be_bytes w16 (high ∷ low ∷ []) ≡ n = same_Some _ n is in
    (sym (be_bytes_2 (high ∷ low ∷ []) n refl fits (sym value)), omega (arith, value, fits 0, fits 1))
limit_found (high ∷ low ∷ next ∷ rest) n fits is = absurd (none-some n is)

limit_again : (n : ℕ) → n < 2 ^ 16 → limit_of (to_be_bytes w16 n) ≡ Some n
limit_again n fits = ap (λ (m : ℕ). Some m) (from_be_bytes-to_be_bytes_2 n fits)

-- What is read is spelled so.
put_found : (coding : Coding) (tag : ℕ) (fields : List ℕ) (r : Request) → IsBytes fields → tag ≡ numbers.PUT_TAG → option_and_then (put_of coding) (name_at fields) ≡ Some r → IsSpelledBy coding (tag ∷ fields) r
put_found coding tag fields r bytes one is =
    option_and_then_some (put_of coding) (name_at fields) r is (λ x found made.
    let named = name_found fields x bytes found in
    subst (IsSpelledBy coding (tag ∷ fields)) (same_Some _ _ made)
    (ap (λ t. t ∷ fields) one ∙ ap (λ (l : List ℕ). numbers.PUT_TAG ∷ l) named.0, (named.1, record { k = refl; p = refl; shard = refl })))

-- fields that are a name and nothing else
name_alone : (fields : List ℕ) (x : List ℕ × List ℕ) → IsBytes fields → name_at fields ≡ Some x → (length x.1 == 0) ≡ true → (fields ≡ name_field x.0) × (length x.0 < 2 ^ 16)
name_alone fields x bytes found ends =
    let named = name_found fields x bytes found in
    let none : x.1 ≡ [] = nil_from_length x.1 (eqb-true (length x.1) 0 ends) in
    (named.0 ∙ ap (λ (l : List ℕ). name_field x.0 ++ l) none ∙ append-nil (name_field x.0), named.1)

get_found : (coding : Coding) (tag : ℕ) (fields : List ℕ) (r : Request) → IsBytes fields → tag ≡ numbers.GET_TAG → option_and_then get_of (name_at fields) ≡ Some r → IsSpelledBy coding (tag ∷ fields) r
get_found coding tag fields r bytes two is =
    option_and_then_some get_of (name_at fields) r is (λ x found made.
    let ends = cond_some (length x.1 == 0) (Call (Get x.0)) r made in
    let alone = name_alone fields x bytes found ends.0 in
    subst (IsSpelledBy coding (tag ∷ fields)) ends.1 (ap (λ t. t ∷ fields) two ∙ ap (λ (l : List ℕ). numbers.GET_TAG ∷ l) alone.0, (alone.1, tt)))

delete_found : (coding : Coding) (tag : ℕ) (fields : List ℕ) (r : Request) → IsBytes fields → tag ≡ numbers.DELETE_TAG → option_and_then delete_of (name_at fields) ≡ Some r → IsSpelledBy coding (tag ∷ fields) r
delete_found coding tag fields r bytes three is =
    option_and_then_some delete_of (name_at fields) r is (λ x found made.
    let ends = cond_some (length x.1 == 0) (Call (Delete x.0)) r made in
    let alone = name_alone fields x bytes found ends.0 in
    subst (IsSpelledBy coding (tag ∷ fields)) ends.1 (ap (λ t. t ∷ fields) three ∙ ap (λ (l : List ℕ). numbers.DELETE_TAG ∷ l) alone.0, (alone.1, tt)))

behind_name : (fields : List ℕ) (x : List ℕ × List ℕ) → IsBytes fields → fields ≡ name_field x.0 ++ x.1 → IsBytes x.1
behind_name fields x bytes is i =
    let at : get_or fields (length (name_field x.0) + i) 0 ≡ get_or x.1 i 0 = ap (λ (l : List ℕ). get_or l (length (name_field x.0) + i) 0) is ∙ get_or-behind (name_field x.0) x.1 i in
    omega (arith, at, bytes (length (name_field x.0) + i))

list_found : (coding : Coding) (tag : ℕ) (fields : List ℕ) (r : Request) → IsBytes fields → tag ≡ numbers.LIST_TAG → option_and_then list_of (name_at fields) ≡ Some r → IsSpelledBy coding (tag ∷ fields) r
list_found coding tag fields r bytes four is =
    option_and_then_some list_of (name_at fields) r is (λ x found made.
    let named = name_found fields x bytes found in
    map_some (λ limit. Call (ListNames x.0 limit)) (limit_of x.1) r made (λ n is_limit call.
    let limit = limit_found x.1 n (behind_name fields x bytes named.0) is_limit in
    subst (IsSpelledBy coding (tag ∷ fields)) call
    (ap (λ t. t ∷ fields) four ∙ ap (λ (l : List ℕ). numbers.LIST_TAG ∷ l) (named.0 ∙ ap (λ (l : List ℕ). name_field x.0 ++ l) limit.0), ((named.1, limit.1), tt))))

stop_found : (coding : Coding) (tag : ℕ) (fields : List ℕ) (r : Request) → tag ≡ numbers.STOP_TAG → stop_of fields ≡ Some r → IsSpelledBy coding (tag ∷ fields) r
stop_found coding tag fields r last is =
    let ends = cond_some (length fields == 0) Stop r is in
    subst (IsSpelledBy coding (tag ∷ fields)) ends.1 (ap (λ t. t ∷ fields) last ∙ ap (λ (l : List ℕ). numbers.STOP_TAG ∷ l) (nil_from_length fields (eqb-true (length fields) 0 ends.0)), tt)

pub request_found : (coding : Coding) (body : List ℕ) (r : Request) → IsBytes body → request_in coding body ≡ Some r → IsSpelledBy coding body r
request_found coding [] r bytes is = absurd (none-some r is)
request_found coding (tag ∷ fields) r bytes is =
    let rest : IsBytes fields = λ i. bytes (suc i) in
    elim (chosen (tag == numbers.PUT_TAG) _ _ _ is) [
      | inl put ↦ put_found coding tag fields r rest (eqb-true tag _ put.0) put.1
      | inr second ↦ elim (chosen (tag == numbers.GET_TAG) _ _ _ second.1) [
        | inl get ↦ get_found coding tag fields r rest (eqb-true tag _ get.0) get.1
        | inr third ↦ elim (chosen (tag == numbers.DELETE_TAG) _ _ _ third.1) [
          | inl delete ↦ delete_found coding tag fields r rest (eqb-true tag _ delete.0) delete.1
          | inr fourth ↦ elim (chosen (tag == numbers.LIST_TAG) _ _ _ fourth.1) [
            | inl list ↦ list_found coding tag fields r rest (eqb-true tag _ list.0) list.1
            | inr fifth ↦ elim (chosen (tag == numbers.STOP_TAG) _ _ _ fifth.1) [
              | inl stop ↦ stop_found coding tag fields r (eqb-true tag _ stop.0) stop.1
              | inr none ↦ absurd (none-some r none.1)
            ]
          ]
        ]
      ]
    ]

-- What is spelled so is read.
same_object : (coding : Coding) (name : List ℕ) (object : CutBytes) → IsCodedFor coding object → coded coding object.bytes ≡ object
same_object coding name object made = λ i. record { bytes = object.bytes; k = sym made.k i; p = sym made.p i; shard = sym made.shard i }

request_again : (coding : Coding) (r : Request) → HasSpelling coding r → request_in coding (request_body r) ≡ Some r
request_again coding (Call (Put name object)) has =
    ap (option_and_then (put_of coding)) (name_again name object.bytes has.0) ∙ ap (λ (o : CutBytes). Some (Call (Put name o))) (same_object coding name object has.1)
request_again coding (Call (Get name)) has = ap (λ (l : List ℕ). option_and_then get_of (name_at l)) (sym (append-nil (name_field name))) ∙ ap (option_and_then get_of) (name_again name [] has.0)
request_again coding (Call (Delete name)) has = ap (λ (l : List ℕ). option_and_then delete_of (name_at l)) (sym (append-nil (name_field name))) ∙ ap (option_and_then delete_of) (name_again name [] has.0)
request_again coding (Call (ListNames after limit)) has =
    ap (option_and_then list_of) (name_again after (to_be_bytes w16 limit) has.0.0) ∙ ap (option_map (λ n. Call (ListNames after n))) (limit_again limit has.0.1)
request_again coding Stop has = refl

-- Frames.
pub same_fronts : (xs ys a b : List ℕ) → length xs ≡ length ys → xs ++ a ≡ ys ++ b → (xs ≡ ys) × (a ≡ b)
same_fronts xs ys a b long e = (
  sym (take_at xs a (length xs) refl) ∙ ap (λ (l : List ℕ). take (length xs) l) e ∙ take_at ys b (length xs) (sym long),
  sym (drop_at xs a (length xs) refl) ∙ ap (λ (l : List ℕ). drop (length xs) l) e ∙ drop_at ys b (length xs) (sym long),
)

has_body : (r : Request) → 0 < length (request_body r)
has_body (Call (Put name object)) = omega arith
has_body (Call (Get name)) = omega arith
has_body (Call (Delete name)) = omega arith
has_body (Call (ListNames after limit)) = omega arith
has_body Stop = omega arith

frame_head : (coding : Coding) (header after front rest : List ℕ) (r : Request) → length header ≡ 4 → Spells coding front r → header ++ after ≡ front ++ rest → (from_be_bytes w32 header ≡ length (request_body r)) × (after ≡ request_body r ++ rest)
frame_head coding header after front rest r four s e =
    let body = request_body r in
    let parts : header ++ after ≡ to_be_bytes w32 (length body) ++ (body ++ rest) =
    e ∙ ap (λ (l : List ℕ). l ++ rest) s.spelled ∙ append_assoc (to_be_bytes w32 (length body)) body rest in
    let same = same_fronts header (to_be_bytes w32 (length body)) after (body ++ rest) four parts in
    (ap (from_be_bytes w32) same.0 ∙ from_be_bytes-to_be_bytes_4 (length body) (omega (arith, s.small)), same.1)

-- fewer bytes than a length has
pub none_short : (coding : Coding) (bytes : List ℕ) → length bytes < 4 → StartsNoFrame coding bytes
none_short coding bytes short front rest r s e =
    omega (arith, ap length e, length-append front rest, ap length s.spelled, length-append (to_be_bytes w32 (length (request_body r))) (request_body r))

-- a length that no body has
pub none_length : (coding : Coding) (header after : List ℕ) → length header ≡ 4 → (from_be_bytes w32 header ≡ 0) ⊎ (numbers.MAX_BODY_BYTES < from_be_bytes w32 header) → StartsNoFrame coding (header ++ after)
none_length coding header after four bad front rest r s e =
    let head = frame_head coding header after front rest r four s e in
    elim bad [ inl zero_long ↦ omega (arith, head.0, zero_long, has_body r) | inr too_long ↦ omega (arith, head.0, too_long, s.small) ]

-- less than the length says
pub none_part : (coding : Coding) (header part : List ℕ) → length header ≡ 4 → length part < from_be_bytes w32 header → StartsNoFrame coding (header ++ part)
none_part coding header part four short front rest r s e =
    let head = frame_head coding header part front rest r four s e in
    omega (arith, head.0, short, ap length head.1, length-append (request_body r) rest)

-- a body that spells no request
pub none_body : (coding : Coding) (header body after : List ℕ) → length header ≡ 4 → length body ≡ from_be_bytes w32 header → request_in coding body ≡ None → StartsNoFrame coding (header ++ (body ++ after))
none_body coding header body after four long none front rest r s e =
    let head = frame_head coding header (body ++ after) front rest r four s e in
    let same = same_fronts body (request_body r) after rest (long ∙ head.0) head.1 in
    none-some r (sym none ∙ ap (request_in coding) same.0 ∙ request_again coding r s.has)

-- a whole frame
pub whole_frame : (coding : Coding) (header body : List ℕ) (r : Request) (n : ℕ) → to_be_bytes w32 n ≡ header → length body ≡ n → length body ≤ numbers.MAX_BODY_BYTES → IsSpelledBy coding body r → Spells coding (header ++ body) r
whole_frame coding header body r n head long small found = record {
  spelled = ap (λ (l : List ℕ). header ++ l) found.0 ∙ ap (λ (l : List ℕ). l ++ request_body r) (sym head ∙ ap (to_be_bytes w32) (sym long ∙ ap length found.0));
  has = found.1;
  small = omega (arith, ap length found.0, small);
}

-- Frames at the front of the same bytes are the same.
frames_agree : (coding : Coding) (f1 x1 f2 x2 : List ℕ) (r1 r2 : Request) → Spells coding f1 r1 → Spells coding f2 r2 → f1 ++ x1 ≡ f2 ++ x2 → (request_body r1 ≡ request_body r2) × (x1 ≡ x2)
frames_agree coding f1 x1 f2 x2 r1 r2 s1 s2 e =
    let body = request_body r1 in
    let parts : to_be_bytes w32 (length body) ++ (body ++ x1) ≡ f2 ++ x2 =
    sym (ap (λ (l : List ℕ). l ++ x1) s1.spelled ∙ append_assoc (to_be_bytes w32 (length body)) body x1) ∙ e in
    let head = frame_head coding (to_be_bytes w32 (length body)) (body ++ x1) f2 x2 r2 refl s2 parts in
    same_fronts body (request_body r2) x1 x2 (sym (from_be_bytes-to_be_bytes_4 (length body) (omega (arith, s1.small))) ∙ head.0) head.1

-- And so are their requests.
pub frames_are_apart : FramesAreApart
frames_are_apart coding front other rest more a b s t e =
    let same = frames_agree coding front rest other more a b s t e in
    let request : a ≡ b = same_Some a b (sym (request_again coding a s.has) ∙ ap (request_in coding) same.0 ∙ request_again coding b t.has) in
    (s.spelled ∙ ap frame same.0 ∙ sym t.spelled, request, same.1)

stop_no_call : (op : Op) → request_body Stop ≡ request_body (Call op) → ⊥
stop_no_call (Put name object) e = omega (arith, ap (λ (l : List ℕ). get_or l 0 0) e)
stop_no_call (Get name) e = omega (arith, ap (λ (l : List ℕ). get_or l 0 0) e)
stop_no_call (Delete name) e = omega (arith, ap (λ (l : List ℕ). get_or l 0 0) e)
stop_no_call (ListNames after limit) e = omega (arith, ap (λ (l : List ℕ). get_or l 0 0) e)

-- No call begins where the frames end.
ends_no_call : (coding : Coding) (rest front more : List ℕ) (op : Op) → EndsFrames coding rest → Spells coding front (Call op) → front ++ more ≡ rest → ⊥
ends_no_call coding rest front more op (inl none) s e =
    omega (arith, ap length (e ∙ none), length-append front more, ap length s.spelled, length-append (to_be_bytes w32 (length (request_body (Call op)))) (request_body (Call op)))
ends_no_call coding rest front more op (inr stop) s e =
    stop_no_call op (frames_agree coding stop.0 stop.1 front more Stop (Call op) stop.3 s (sym (e ∙ stop.2))).0

starts_end : (coding : Coding) (rest : List ℕ) → StartsNoFrame coding rest → 0 < length rest → EndsFrames coding rest → ⊥
starts_end coding rest none some (inl e) = omega (arith, some, ap length e)
starts_end coding rest none some (inr stop) = none stop.0 stop.1 Stop stop.3 stop.2

-- Behind the calls of whole frames no bad frame stands.
pub whole_not_bad : (coding : Coding) (ops1 ops : List Op) (bytes rest1 calls rest : List ℕ) → SpellsCalls coding bytes ops1 → SpellsCalls coding calls ops → StartsNoFrame coding rest1 → 0 < length rest1 → EndsFrames coding rest → bytes ++ rest1 ≡ calls ++ rest → ⊥
whole_not_bad coding [] [] bytes rest1 calls rest s1 s none some end e =
    let same : rest1 ≡ rest = sym (ap (λ (l : List ℕ). l ++ rest1) s1) ∙ e ∙ ap (λ (l : List ℕ). l ++ rest) s in
    starts_end coding rest (subst (StartsNoFrame coding) same none) (subst (λ (l : List ℕ). 0 < length l) same some) end
whole_not_bad coding [] (op ∷ ops) bytes rest1 calls rest s1 s none some end e =
    none s.0 (s.1 ++ rest) (Call op) s.3 (sym (ap (λ (l : List ℕ). l ++ rest1) s1) ∙ e ∙ ap (λ (l : List ℕ). l ++ rest) s.2 ∙ append_assoc s.0 s.1 rest)
whole_not_bad coding (op1 ∷ ops1) [] bytes rest1 calls rest s1 s none some end e =
    ends_no_call coding rest s1.0 (s1.1 ++ rest1) op1 end s1.3 (sym (append_assoc s1.0 s1.1 rest1) ∙ sym (ap (λ (l : List ℕ). l ++ rest1) s1.2) ∙ e ∙ ap (λ (l : List ℕ). l ++ rest) s)
whole_not_bad coding (op1 ∷ ops1) (op ∷ ops) bytes rest1 calls rest s1 s none some end e =
    let parts : s1.0 ++ (s1.1 ++ rest1) ≡ s.0 ++ (s.1 ++ rest) =
    sym (append_assoc s1.0 s1.1 rest1) ∙ sym (ap (λ (l : List ℕ). l ++ rest1) s1.2) ∙ e ∙ ap (λ (l : List ℕ). l ++ rest) s.2 ∙ append_assoc s.0 s.1 rest in
    whole_not_bad coding ops1 ops s1.1 rest1 s.1 rest s1.4 s.4 none some end (frames_agree coding s1.0 (s1.1 ++ rest1) s.0 (s.1 ++ rest) (Call op1) (Call op) s1.3 s.3 parts).1
