-- Payloads, as they are read from the fragments of carriers.
use Rattle.std.proofs.Common.{◌≡◌, ℕ, suc, ◌+◌, ◌-◌, ◌*◌, ◌<◌, ◌≤◌, min, List, [], ◌∷◌, ◌++◌, length, map, take, drop, get_or, None, IfSome, refl, sym, ap, ap₂, ◌∙◌, subst, arith, append_assoc, append-nil}
use Rattle.std.specs.Prelude.{replicate}
use Rattle.std.specs.List.{flat_map, range_with_len}
use Rattle.std.proofs.lemmas.List.{drop-take, drop-drop, take_at, take_min, take_more, length-append, length-drop, drop_all, map-append}
use Rattle.std.proofs.lemmas.Grind.{flat_map-append}
use Rattle.zone_bay.specs.Bay.{BayState}
use Rattle.marker_format.specs.Fragment.{content_at}
use Rattle.array_model.specs.Drives.{Place, bytes_at}
use Rattle.array_scan.specs.Calls.{OnlyRead}
use Rattle.array_scan.specs.declared.set_read.Carrier.{Carrier}
use Rattle.array_scan.specs.declared.set_read.RecordAt.{RecordAt}
use Rattle.array_scan.specs.Payloads.{resized, fragment_held, fragments_held}
use Rattle.array_scan.proofs.Calls.{told_at, told_from, read_nothing, read_then, same_held}
use Rattle.array_scan.proofs.Ranges.{range_more}

-- ---- blocks

pub content_is : (zone : List ℕ) (block : ℕ) → content_at zone block ≡ take 511 (drop (512 * block + 1) zone)
content_is zone block = drop-take 1 511 (drop (512 * block) zone) ∙ ap (take 511) (drop-drop 1 (512 * block) zone)

pub content_none : (zone out : List ℕ) (block : ℕ) → length zone ≤ 512 * block + 1 → out ≡ out ++ content_at zone block
content_none zone out block short =
    sym (append-nil out) ∙ ap (λ l. out ++ l) (sym (content_is zone block ∙ ap (take 511) (drop_all (512 * block + 1) zone short)))

pub content_some : (zone out out' content : List ℕ) (block len : ℕ) → len ≡ min 511 (length zone - (512 * block + 1)) → content ≡ take len (drop (512 * block + 1) zone) → out' ≡ out ++ content → out' ≡ out ++ content_at zone block
content_some zone out out' content block len long is added =
    added ∙ ap (λ l. out ++ l)
    (is
    ∙ ap (λ n. take n (drop (512 * block + 1) zone)) (long ∙ ap (min 511) (sym (length-drop (512 * block + 1) zone)))
    ∙ take_min 511 (drop (512 * block + 1) zone)
    ∙ sym (content_is zone block))

-- what was read into the front of a buffer
pub front_read : (zone out rest : List ℕ) (at len : ℕ) → length out ≡ len → out ≡ take (length out) (drop at zone) → take len (out ++ rest) ≡ take len (drop at zone)
front_read zone out rest at len long read = take_at out rest len long ∙ read ∙ ap (λ n. take n (drop at zone)) long

-- ---- fragments

-- so many blocks of a fragment were read
pub record BlocksRead (place : Place) (block : ℕ) (before now : BayState) (first out : List ℕ) (i : ℕ) : Type 0 where
  pub read : OnlyRead before now None
  pub told : IfSome before.contents (λ held. out ≡ first ++ flat_map (content_at (bytes_at held place)) (range_with_len (block + 1) i))

pub blocks_none : (place : Place) (block : ℕ) (bay : BayState) (first : List ℕ) → BlocksRead place block bay bay first first 0
blocks_none place block bay first = record { read = read_nothing bay; told = told_from bay.contents _ (λ held is. sym (append-nil first)) }

pub blocks_more : (place : Place) (block : ℕ) (before mid after : BayState) (first out out' : List ℕ) (i at : ℕ) → at ≡ block + 1 + i → BlocksRead place block before mid first out i → OnlyRead mid after None
    → IfSome mid.contents (λ held. out' ≡ out ++ content_at (bytes_at held place) at) → BlocksRead place block before after first out' (i + 1)
blocks_more place block before mid after first out out' i at here so_far read more = record {
  read = read_then before mid after None so_far.read read;
  told = told_from before.contents _ (λ held is.
      let one = told_at mid.contents _ held (same_held before mid None so_far.read ∙ is) more in
      let g = content_at (bytes_at held place) in
      one ∙ ap₂ (λ (l : List ℕ) n. l ++ g n) (told_at before.contents _ held is so_far.told) here
      ∙ append_assoc first (flat_map g (range_with_len (block + 1) i)) (g (block + 1 + i))
      ∙ ap (λ l. first ++ l) (sym (ap (flat_map g) (range_more (block + 1) i (block + 1 + i) refl) ∙ flat_map-append g (range_with_len (block + 1) i) ((block + 1 + i) ∷ []) ∙ ap (λ l. flat_map g (range_with_len (block + 1) i) ++ l) (append-nil (g (block + 1 + i)))))
      );
}

-- the first so many bytes behind those that were there
take_behind : (first all : List ℕ) (n : ℕ) → take (length first + n) (first ++ all) ≡ first ++ take n all
take_behind [] all n = ap (λ m. take m all) (let e : 0 + n ≡ n = omega arith in e)
take_behind (x ∷ first) all n = ap (λ m. take m (x ∷ first ++ all)) (let e : suc (length first) + n ≡ suc (length first + n) = omega arith in e) ∙ ap (λ l. x ∷ l) (take_behind first all n)

-- they were cut to a fragment, and to f bytes
pub fragment_cut : (first all out mid new : List ℕ) (cut bytes behind f : ℕ) → out ≡ first ++ all → cut ≡ length first + bytes → mid ≡ take cut out → behind ≡ length first + f → new ≡ take behind mid ++ replicate (behind - length mid) 0
    → new ≡ first ++ resized f (take bytes all)
fragment_cut first all out mid new cut bytes behind f out_is cut_is mid_is behind_is new_is =
    let t = take bytes all in
    let mid_as : mid ≡ first ++ t = mid_is ∙ ap₂ take cut_is out_is ∙ take_behind first all bytes in
    let l = length-append first t in
    new_is
    ∙ ap₂ (λ (n : ℕ) (m : List ℕ). take n m ++ replicate (n - length m) 0) behind_is mid_as
    ∙ ap₂ (λ (l : List ℕ) n. l ++ replicate n 0) (take_behind first t f) (let e : length first + f - length (first ++ t) ≡ f - length t = omega (arith, l) in e)
    ∙ append_assoc first (take f t) (replicate (f - length t) 0)

-- the fragments of the first so many carriers were read
pub record FragmentsRead (at : RecordAt) (f : ℕ) (carriers : List Carrier) (before now : BayState) (have bytes : List ℕ) (n : ℕ) : Type 0 where
  pub read : OnlyRead before now None
  pub have_are : have ≡ map (λ c. c.index) (take n carriers)
  pub size : length bytes ≡ n * f
  pub told : IfSome before.contents (λ held. bytes ≡ fragments_held held at f (take n carriers))

pub fragments_none : (at : RecordAt) (f : ℕ) (carriers : List Carrier) (bay : BayState) → FragmentsRead at f carriers bay bay [] [] 0
fragments_none at f carriers bay = record { read = read_nothing bay; have_are = refl; size = (let e : 0 ≡ 0 * f = omega arith in e); told = told_from bay.contents _ (λ held is. refl) }

pub fragments_more : (at : RecordAt) (f : ℕ) (carriers : List Carrier) (before mid after : BayState) (have bytes bytes' : List ℕ) (n : ℕ) (c : Carrier) → n < length carriers → c ≡ get_or carriers n c → FragmentsRead at f carriers before mid have bytes n → OnlyRead mid after None
    → IfSome mid.contents (λ held. bytes' ≡ bytes ++ fragment_held held at f c) → length bytes' ≡ length bytes + f → FragmentsRead at f carriers before after (have ++ c.index ∷ []) bytes' (n + 1)
fragments_more at f carriers before mid after have bytes bytes' n c below here so_far read more long =
    let next : take (n + 1) carriers ≡ take n carriers ++ c ∷ [] = take_more carriers n c below ∙ ap (λ x. take n carriers ++ x ∷ []) (sym here) in
    record {
      read = read_then before mid after None so_far.read read;
      have_are = ap (λ l. l ++ c.index ∷ []) so_far.have_are ∙ sym (ap (map (λ (c : Carrier). c.index)) next ∙ map-append (λ (c : Carrier). c.index) (take n carriers) (c ∷ []));
      size = long ∙ ap (λ m. m + f) so_far.size ∙ (let e : n * f + f ≡ (n + 1) * f = grind arith in e);
      told = told_from before.contents _ (λ held is.
          told_at mid.contents _ held (same_held before mid None so_far.read ∙ is) more
          ∙ ap (λ l. l ++ fragment_held held at f c) (told_at before.contents _ held is so_far.told)
          ∙ sym (ap (fragments_held held at f) next ∙ flat_map-append (fragment_held held at f) (take n carriers) (c ∷ []) ∙ ap (λ l. fragments_held held at f (take n carriers) ++ l) (append-nil (fragment_held held at f c))));
    }

-- those of all carriers
pub fragments_all : (at : RecordAt) (f : ℕ) (carriers : List Carrier) (before now : BayState) (have bytes : List ℕ) (n : ℕ) → n ≡ length carriers → FragmentsRead at f carriers before now have bytes n → FragmentsRead at f carriers before now have bytes (length carriers)
fragments_all at f carriers before now have bytes n all so_far = subst (λ (n : ℕ). FragmentsRead at f carriers before now have bytes n) all so_far
