-- Calls that only read a zone, and what they do to a reader of it.
use Rattle.std.proofs.Common.{◌≡◌, ℕ, suc, ◌+◌, ◌*◌, ◌≤◌, Bool, true, false, cond, List, [], ◌∷◌, length, Option, Some, None, Result, Ok, Err, refl, sym, ap, subst, ◌∙◌, arith}
use Rattle.std.specs.Prelude.{◌&&◌, nat_le, ◌==◌, option_map, IfSome, IfOk, OnErr}
use Rattle.std.proofs.lemmas.Bool.{and_parts, leb-true, false≢true}
use Rattle.zone_bay.specs.Bay.{BayState}
use Rattle.zone_bay.specs.Stretch.{ReadsAtMost, FailsReading}
use Rattle.zone_bay.proofs.Calls.{fails_reading_then}
use Rattle.zone_bay.proofs.Causes.{cause_later}
use Rattle.zone_bay.proofs.Stretch.{reads_nothing, reads_join, reads_weaker}
use Rattle.marker_format.specs.declared.marker.Marker.{Marker}
use Rattle.marker_format.specs.Block.{marker_in_block}
use Rattle.marker_format.specs.Zone.{Array, block_at, blocks_of, belongs, may_stand, where_passes, next_at, records_from, begun, is_rebuilt, whole_records, foot_follows, has_foot, trailer_follows}
use Rattle.marker_format.proofs.ZoneLaws.{whole_records-first, whole_records-ended, whole_records-none, Begin-begun}
use Rattle.zone_parse.specs.declared.lost.Lost.{Lost}
use Rattle.zone_parse.specs.declared.walk.Walk.{Walk}
use Rattle.zone_parse.specs.declared.zone_reader.Source.{Source}
use Rattle.zone_parse.specs.declared.zone_reader.Progress.{Progress}
use Rattle.zone_parse.specs.declared.zone_reader.Progress.TheVariants.{Fresh, Walking, Again, Ended}
use Rattle.zone_parse.specs.declared.zone_reader.ZoneReader.{ZoneReader}
use Rattle.zone_parse.specs.Walk.{before_of, start, behind, behind_all, records_behind, foot_seen, holds_foot, shown, end_of, foot_at, ends_zone, place_behind, trailer_at}
use Rattle.zone_parse.specs.ZoneReader.{array_of, held_at, IsIn, OnlyReadsOf, record_in, IsEndOf, rebuilt_end, reads_for, IsNext}
use Rattle.zone_parse.proofs.Walks.{records_behind-none, records_behind-some, records_again-some, records_again-none, records_from-exact, records_behind-start, foot_at-all, trailer_at-all, marker_shown, foot_shown}

-- ---- what is told

pub if_some-map : {A : Type 0} (P Q : A → Type 0) (o : Option A) → IfSome o P → ((x : A) → P x → Q x) → IfSome o Q
if_some-map P Q None is f = tt
if_some-map P Q (Some x) is f = f x is

pub if_some-both : {A : Type 0} (P Q R : A → Type 0) (o : Option A) → IfSome o P → IfSome o Q → ((x : A) → P x → Q x → R x) → IfSome o R
if_some-both P Q R None p q f = tt
if_some-both P Q R (Some x) p q f = f x p q

-- ---- one call behind the other

pub nothing_read : {T : Type 0} (s : Source) (bay : BayState) (x : T) → OnlyReadsOf s bay bay (Ok x)
nothing_read s bay x = record { only = reads_nothing bay _; cause = record { keeps = omega arith; ok = refl; err = tt }; device = tt; over = tt }

pub reads_as : {T U : Type 0} (s : Source) (old new : BayState) (x : T) (y : U) → OnlyReadsOf s old new (Ok x) → OnlyReadsOf s old new (Ok y)
reads_as s old new x y reads = record {
  only = reads_weaker old new _ _ (λ d m since q. absurd (false≢true q.0)) reads.only;
  cause = record { keeps = reads.cause.keeps; ok = reads.cause.ok; err = tt };
  device = tt;
  over = tt;
}

pub fails_as : {T U : Type 0} (s : Source) (old new : BayState) (e : Lost) → OnlyReadsOf {T = T} s old new (Err e) → OnlyReadsOf {T = U} s old new (Err e)
fails_as s old new e reads = record {
  only = reads_weaker old new _ _ (λ d m since q. (refl, q.1)) reads.only;
  cause = record { keeps = reads.cause.keeps; ok = tt; err = reads.cause.err };
  device = reads.device;
  over = reads.over;
}

over_then : {T U : Type 0} (s : Source) (old mid new : BayState) (x : T) (r : Result U Lost) → OnlyReadsOf s old mid (Ok x) → OnErr r (FailsReading s.device mid new) → OnErr r (FailsReading s.device old new)
over_then s old mid new x (Ok y) first over = tt
over_then s old mid new x (Err e) first over = fails_reading_then s.device old mid new _ first.only over

pub reads_then : {T U : Type 0} (s : Source) (old mid new : BayState) (x : T) (r : Result U Lost) → OnlyReadsOf s old mid (Ok x) → OnlyReadsOf s mid new r → OnlyReadsOf s old new r
reads_then s old mid new x r first then = record {
  only = reads_join old mid new _ (reads_weaker old mid _ _ (λ d m since q. absurd (false≢true q.0)) first.only) then.only;
  cause = cause_later x r (old.faults s.device) (mid.faults s.device) (new.faults s.device) first.cause then.cause;
  device = then.device;
  over = over_then s old mid new x r first then.over;
}

pub held_after : {T : Type 0} (s : Source) (old new : BayState) (r : Result T Lost) → OnlyReadsOf s old new r → held_at s new ≡ held_at s old
held_after s old new r reads = ap (option_map (λ held. held s.device s.zone)) reads.only.contents

pub IsIn-after : {T : Type 0} (s : Source) (old new : BayState) (r : Result T Lost) → OnlyReadsOf s old new r → IsIn old s → IsIn new s
IsIn-after s old new r reads is = record {
  device = rw reads.only.goes_on.same_shape is.device;
  zone = rw reads.only.goes_on.same_shape is.zone;
  written = rw (held_after s old new r reads) is.written;
}

-- ---- one step

-- a record that a source accepts stands there
pub record_in-is : (s : Source) (w : Walk) (block bytes : List ℕ) → length bytes ≡ s.written → block ≡ shown bytes w.block → record_in s w block ≡ next_at (array_of s) bytes (before_of w) w.block
unfolding next_at
record_in-is s w block bytes long is =
    (λ i. where_passes (λ m. belongs (array_of s) m && may_stand (before_of w) m && nat_le (512 * (w.block + blocks_of m)) (sym long i)) (marker_in_block (is i)))
    ∙ ap (where_passes (λ m. belongs (array_of s) m && may_stand (before_of w) m && nat_le (512 * (w.block + blocks_of m)) (length bytes))) (marker_shown bytes w.block)

where_passes-test : (test : Marker → Bool) (o : Option Marker) (m : Marker) → where_passes test o ≡ Some m → test m ≡ true
where_passes-test test None m e = absurd cc
where_passes-test test (Some x) m e = passed (test x) refl e
  where
    passed : (b : Bool) → test x ≡ b → cond b (Some x) None ≡ Some m → test m ≡ true
    passed true is e = let same : x ≡ m = cc in ap test (sym same) ∙ is
    passed false is e = absurd cc

pub record_in-within : (s : Source) (w : Walk) (block : List ℕ) (m : Marker) → Some m ≡ record_in s w block → 512 * (w.block + blocks_of m) ≤ s.written
record_in-within s w block m e =
    let passed = where_passes-test (λ m. belongs (array_of s) m && may_stand (before_of w) m && nat_le (512 * (w.block + blocks_of m)) s.written) (marker_in_block block) m (sym e) in
    leb-true (512 * (w.block + blocks_of m)) s.written (and_parts _ _ passed).1

module _ (s : Source) (before after : BayState) (block : List ℕ) (w : Walk) where
  abbrev zone_array : Array
  zone_array = array_of s

  -- what is known of a block that was read
  pub record BlockRead : Type 0 where
    pub inside : IsIn before s
    pub shows : IfSome (held_at s before) (λ bytes. block ≡ shown bytes w.block)
    pub only : OnlyReadsOf s before after (Ok block)
    pub once : ReadsAtMost 1 before after

  abbrev at_progress : Progress → ZoneReader
  at_progress p = record { source = s; progress = p }

  -- a record was found, or none: what follows of the bytes
  stepped : (o : Option Marker) (R : List ℕ → Type 0) → BlockRead → o ≡ record_in s w block → ((bytes : List ℕ) → next_at zone_array bytes (before_of w) w.block ≡ o → block ≡ shown bytes w.block → R bytes) → IfSome (held_at s before) R
  stepped o R read found f =
      if_some-both _ _ R (held_at s before) read.inside.written read.shows (λ bytes long is. f bytes (sym (record_in-is s w block bytes long is) ∙ sym found) is)

  end_of-some : (bytes : List ℕ) (m : Marker) → next_at zone_array bytes (before_of w) w.block ≡ Some m → end_of zone_array bytes w ≡ end_of zone_array bytes (behind w m)
  end_of-some bytes m e = ap (behind_all w) (records_behind-some zone_array bytes w m e)

  end_of-none : (bytes : List ℕ) → next_at zone_array bytes (before_of w) w.block ≡ None → end_of zone_array bytes w ≡ w
  end_of-none bytes e = ap (behind_all w) (records_behind-none zone_array bytes w e)

  pub walking_some : (m : Marker) → BlockRead → Some m ≡ record_in s w block → IsNext (at_progress (Walking w)) (at_progress (Walking (behind w m))) before after (Ok (Some m))
  walking_some m read found = record {
    gives = stepped (Some m) _ read found (λ bytes e is. record {
      records = records_behind-some zone_array bytes w m e;
      foot = ap (foot_at bytes) (sym (end_of-some bytes m e));
    });
    ended = tt;
    nearer = omega (arith, record_in-within s w block m found);
    source = refl;
    kept = tt;
    reads = reads_as s before after block (Some m) read.only;
    spends = stepped (Some m) _ read found (λ bytes e is. record { reads = 1; fewer = omega (arith, ap length (records_behind-some zone_array bytes w m e)); made = read.once });
    spends_lost = if_some-map (λ bytes. length bytes ≡ s.written) _ (held_at s before) read.inside.written (λ bytes e. tt);
  }

  pub walking_none : (foot : Bool) → BlockRead → None ≡ record_in s w block → foot ≡ holds_foot (foot_seen w.digest w.last) block → IsNext (at_progress (Walking w)) (at_progress (Ended foot)) before after (Ok None)
  walking_none foot read found foot-is = record {
    gives = stepped None _ read found (λ bytes e is. record {
      records = records_behind-none zone_array bytes w e;
      foot = foot-is ∙ ap (holds_foot (foot_seen w.digest w.last)) is ∙ foot_shown bytes w.block (foot_seen w.digest w.last) ∙ ap (foot_at bytes) (sym (end_of-none bytes e));
    });
    ended = tt;
    nearer = tt;
    source = refl;
    kept = tt;
    reads = reads_as s before after block None read.only;
    spends = stepped None _ read found (λ bytes e is. record { reads = 1; fewer = omega arith; made = read.once });
    spends_lost = if_some-map (λ bytes. length bytes ≡ s.written) _ (held_at s before) read.inside.written (λ bytes e. tt);
  }

  pub again_some : (m : Marker) (left : ℕ) (foot : Bool) → BlockRead → Some m ≡ record_in s w block → IsNext (at_progress (Again w (suc left) foot)) (at_progress (Again (behind w m) left foot)) before after (Ok (Some m))
  again_some m left foot read found = record {
    gives = stepped (Some m) _ read found (λ bytes e is. record { records = records_again-some left zone_array bytes w m e; foot = refl });
    ended = tt;
    nearer = omega (arith, record_in-within s w block m found);
    source = refl;
    kept = tt;
    reads = reads_as s before after block (Some m) read.only;
    spends = stepped (Some m) _ read found (λ bytes e is. record { reads = 1; fewer = omega arith; made = read.once });
    spends_lost = if_some-map (λ bytes. length bytes ≡ s.written) _ (held_at s before) read.inside.written (λ bytes e. tt);
  }

  pub again_none : (left : ℕ) (foot : Bool) → BlockRead → None ≡ record_in s w block → IsNext (at_progress (Again w (suc left) foot)) (at_progress (Ended foot)) before after (Ok None)
  again_none left foot read found = record {
    gives = stepped None _ read found (λ bytes e is. record { records = records_again-none (suc left) zone_array bytes w e; foot = refl });
    ended = tt;
    nearer = tt;
    source = refl;
    kept = tt;
    reads = reads_as s before after block None read.only;
    spends = stepped None _ read found (λ bytes e is. record { reads = 1; fewer = omega arith; made = read.once });
    spends_lost = if_some-map (λ bytes. length bytes ≡ s.written) _ (held_at s before) read.inside.written (λ bytes e. tt);
  }

-- none is left: nothing is read
pub again_zero : (s : Source) (bay : BayState) (w : Walk) (foot : Bool) → IsIn bay s → IsNext (record { source = s; progress = Again w 0 foot }) (record { source = s; progress = Ended foot }) bay bay (Ok None)
unfolding records_from
again_zero s bay w foot inside = record {
  gives = if_some-map (λ bytes. length bytes ≡ s.written) _ (held_at s bay) inside.written (λ bytes e. record { records = refl; foot = refl });
  ended = tt;
  nearer = tt;
  source = refl;
  kept = tt;
  reads = nothing_read s bay None;
  spends = if_some-map (λ bytes. length bytes ≡ s.written) _ (held_at s bay) inside.written (λ bytes e. record { reads = 0; fewer = omega arith; made = omega arith });
  spends_lost = if_some-map (λ bytes. length bytes ≡ s.written) _ (held_at s bay) inside.written (λ bytes e. tt);
}

-- a reader that has ended stays as it is
pub ended_again : (s : Source) (bay : BayState) (foot : Bool) → IsIn bay s → IsNext (record { source = s; progress = Ended foot }) (record { source = s; progress = Ended foot }) bay bay (Ok None)
ended_again s bay foot inside = record {
  gives = if_some-map (λ bytes. length bytes ≡ s.written) _ (held_at s bay) inside.written (λ bytes e. record { records = refl; foot = refl });
  ended = tt;
  nearer = tt;
  source = refl;
  kept = tt;
  reads = nothing_read s bay None;
  spends = if_some-map (λ bytes. length bytes ≡ s.written) _ (held_at s bay) inside.written (λ bytes e. record { reads = 0; fewer = omega arith; made = omega arith });
  spends_lost = if_some-map (λ bytes. length bytes ≡ s.written) _ (held_at s bay) inside.written (λ bytes e. tt);
}

-- ---- the first call

-- the records that begin with this head
begun-head : (array : Array) (bytes : List ℕ) (head : Marker) → next_at array bytes None 0 ≡ Some head → begun array bytes ≡ head ∷ records_behind array bytes (behind start head)
begun-head array bytes head e = sym (records_behind-start array bytes) ∙ records_behind-some array bytes start head e

begun-none : (array : Array) (bytes : List ℕ) → next_at array bytes None 0 ≡ None → begun array bytes ≡ []
begun-none array bytes e = sym (records_behind-start array bytes) ∙ records_behind-none array bytes start e

-- the foot behind the records of a zone that count
has_foot-begun : (array : Array) (bytes : List ℕ) → whole_records array bytes ≡ begun array bytes → has_foot array bytes ≡ foot_at bytes (behind_all start (begun array bytes))
unfolding has_foot
has_foot-begun array bytes e = ap (foot_follows bytes) e ∙ sym (foot_at-all bytes (begun array bytes))

has_foot-none : (array : Array) (bytes : List ℕ) → whole_records array bytes ≡ [] → has_foot array bytes ≡ false
unfolding has_foot foot_follows
has_foot-none array bytes e = ap (foot_follows bytes) e

reads_for-head : (array : Array) (bytes : List ℕ) (head : Marker) (rest : List Marker) → begun array bytes ≡ head ∷ rest → reads_for (begun array bytes) ≡ cond (head.part == 1) (2 * suc (length rest) + 1) (suc (length rest) + 1)
reads_for-head array bytes head rest e = ap reads_for e

abbrev counted_end : ℕ → Bool → Option (ℕ × Bool)
counted_end n foot = Some (n, foot)

abbrev some_pair : ℕ × Bool → Option (ℕ × Bool)
some_pair x = Some x

pair_is : (x y : ℕ × Bool) → some_pair x ≡ some_pair y → x ≡ y
pair_is x y e = cc

some_end : (b : Bool) (n : ℕ) (f : Bool) (left : ℕ) (foot : Bool) → counted_end left foot ≡ cond b (counted_end n f) None → (b ≡ true) × (left ≡ n) × (foot ≡ f)
some_end true n f left foot e = let p = pair_is (left, foot) (n, f) e in (refl, ap (λ (x : ℕ × Bool). x.0) p, ap (λ (x : ℕ × Bool). x.1) p)
some_end false n f left foot e = absurd cc

no_end : (b : Bool) (n : ℕ) (f : Bool) → None ≡ cond b (counted_end n f) None → b ≡ false
no_end true n f e = absurd cc
no_end false n f e = refl

module _ (s : Source) (before mid after : BayState) (block : List ℕ) where
  abbrev fresh : ZoneReader
  fresh = record { source = s; progress = Fresh }

  abbrev now_at : Progress → ZoneReader
  now_at p = record { source = s; progress = p }

  abbrev ours : Array
  ours = array_of s

  pub first_none : BlockRead s before mid block start → None ≡ record_in s start block → IsNext fresh (now_at (Ended false)) before mid (Ok None)
  first_none read found = record {
    gives = stepped s before mid block start None _ read found (λ bytes e is.
        let none = begun-none ours bytes e in
        let whole = whole_records-first ours bytes (ap is_rebuilt none) ∙ none in
        record { records = whole; foot = sym (has_foot-none ours bytes whole) });
    ended = tt;
    nearer = tt;
    source = refl;
    kept = tt;
    reads = reads_as s before mid block None read.only;
    spends = stepped s before mid block start None _ read found (λ bytes e is. record { reads = 1; fewer = omega (arith, ap reads_for (begun-none ours bytes e)); made = read.once });
    spends_lost = if_some-map (λ bytes. length bytes ≡ s.written) _ (held_at s before) read.inside.written (λ bytes e. tt);
  }

  pub first_walking : (head : Marker) → BlockRead s before mid block start → Some head ≡ record_in s start block → (head.part == 1) ≡ false → IsNext fresh (now_at (Walking (behind start head))) before mid (Ok (Some head))
  first_walking head read found first = record {
    gives = stepped s before mid block start (Some head) _ read found (λ bytes e is.
        let all = begun-head ours bytes head e in
        let whole = whole_records-first ours bytes (ap is_rebuilt all ∙ first) in
        record { records = whole ∙ all; foot = sym (has_foot-begun ours bytes whole ∙ ap (λ (ms : List Marker). foot_at bytes (behind_all start ms)) all) });
    ended = tt;
    nearer = omega (arith, record_in-within s start block head found);
    source = refl;
    kept = tt;
    reads = reads_as s before mid block (Some head) read.only;
    spends = stepped s before mid block start (Some head) _ read found (λ bytes e is.
        let rest = records_behind ours bytes (behind start head) in
        let takes : reads_for (begun ours bytes) ≡ suc (length rest) + 1 = reads_for-head ours bytes head rest (begun-head ours bytes head e) ∙ ap (λ (b : Bool). cond b (2 * suc (length rest) + 1) (suc (length rest) + 1)) first in
        record { reads = 1; fewer = omega (arith, takes); made = read.once });
    spends_lost = if_some-map (λ bytes. length bytes ≡ s.written) _ (held_at s before) read.inside.written (λ bytes e. tt);
  }

  -- what is known of the end of a rebuilt zone
  pub record EndRead (head : Marker) (r : Result (Option (ℕ × Bool)) Lost) : Type 0 where
    pub is_end : IfSome (held_at s before) (λ bytes. IfOk r (λ end. end ≡ rebuilt_end ours bytes (behind start head)))
    pub only : OnlyReadsOf s mid after r
    pub few : IfSome (held_at s before) (λ bytes. ReadsAtMost (length (records_behind ours bytes (behind start head)) + 2) mid after)

  -- both readings make no more reads than a rebuilt zone takes
  takes_twice : (bytes : List ℕ) (head : Marker) → next_at ours bytes None 0 ≡ Some head → (head.part == 1) ≡ true → reads_for (begun ours bytes) ≡ 2 * suc (length (records_behind ours bytes (behind start head))) + 1
  takes_twice bytes head e mark =
      let rest = records_behind ours bytes (behind start head) in
      reads_for-head ours bytes head rest (begun-head ours bytes head e) ∙ ap (λ (b : Bool). cond b (2 * suc (length rest) + 1) (suc (length rest) + 1)) mark

  end_is : (bytes : List ℕ) (head : Marker) → begun ours bytes ≡ head ∷ records_behind ours bytes (behind start head) → behind_all start (begun ours bytes) ≡ end_of ours bytes (behind start head)
  end_is bytes head all = ap (behind_all start) all

  trailer_is : (bytes : List ℕ) (head : Marker) → begun ours bytes ≡ head ∷ records_behind ours bytes (behind start head) → trailer_at ours bytes (end_of ours bytes (behind start head)) ≡ trailer_follows ours bytes (begun ours bytes)
  trailer_is bytes head all = ap (trailer_at ours bytes) (sym (end_is bytes head all)) ∙ trailer_at-all ours bytes (begun ours bytes) (Begin-begun ours bytes)

  pub first_again : (head : Marker) (left : ℕ) (foot : Bool) → BlockRead s before mid block start → Some head ≡ record_in s start block → (head.part == 1) ≡ true → EndRead head (Ok (counted_end left foot))
      → IsNext fresh (now_at (Again (behind start head) left foot)) before after (Ok (Some head))
  first_again head left foot read found mark ends = record {
    gives = if_some-both _ _ _ (held_at s before) (stepped s before mid block start (Some head) (λ bytes. next_at ours bytes None 0 ≡ Some head) read found (λ bytes e is. e)) ends.is_end (λ bytes e end.
        let all = begun-head ours bytes head e in
        let w = behind start head in
        let is = some_end (trailer_at ours bytes (end_of ours bytes w)) (length (records_behind ours bytes w)) (foot_at bytes (end_of ours bytes w)) left foot end in
        let whole = whole_records-ended ours bytes (sym (trailer_is bytes head all) ∙ is.0) in
        let again : records_from left ours bytes (before_of w) w.block ≡ records_behind ours bytes w = ap (λ (n : ℕ). records_from n ours bytes (before_of w) w.block) is.1 ∙ records_from-exact ours bytes w in
        record {
          records = whole ∙ all ∙ ap (λ (ms : List Marker). head ∷ ms) (sym again);
          foot = is.2 ∙ ap (foot_at bytes) (sym (end_is bytes head all)) ∙ sym (has_foot-begun ours bytes whole);
        });
    ended = tt;
    nearer = omega (arith, record_in-within s start block head found);
    source = refl;
    kept = tt;
    reads = reads_then s before mid after block (Ok (Some head)) read.only (reads_as s mid after (counted_end left foot) (Some head) ends.only);
    spends = if_some-both _ _ _ (held_at s before) (if_some-both _ _ (λ bytes. (next_at ours bytes None 0 ≡ Some head) × (counted_end left foot ≡ rebuilt_end ours bytes (behind start head))) (held_at s before) (stepped s before mid block start (Some head) (λ bytes. next_at ours bytes None 0 ≡ Some head) read found (λ bytes e is. e)) ends.is_end (λ bytes e end. (e, end))) ends.few (λ bytes h few.
        let w = behind start head in
        let is = some_end (trailer_at ours bytes (end_of ours bytes w)) (length (records_behind ours bytes w)) (foot_at bytes (end_of ours bytes w)) left foot h.1 in
        record { reads = length (records_behind ours bytes w) + 3; fewer = omega (arith, takes_twice bytes head h.0 mark, is.1); made = omega (arith, few, read.once) });
    spends_lost = if_some-map (λ bytes. length bytes ≡ s.written) _ (held_at s before) read.inside.written (λ bytes e. tt);
  }

  pub first_open : (head : Marker) → BlockRead s before mid block start → Some head ≡ record_in s start block → (head.part == 1) ≡ true → EndRead head (Ok None) → IsNext fresh (now_at (Ended false)) before after (Ok None)
  first_open head read found mark ends = record {
    gives = if_some-both _ _ _ (held_at s before) (stepped s before mid block start (Some head) (λ bytes. next_at ours bytes None 0 ≡ Some head) read found (λ bytes e is. e)) ends.is_end (λ bytes e end.
        let all = begun-head ours bytes head e in
        let w = behind start head in
        let open_end = no_end (trailer_at ours bytes (end_of ours bytes w)) (length (records_behind ours bytes w)) (foot_at bytes (end_of ours bytes w)) end in
        let whole = whole_records-none ours bytes (ap is_rebuilt all ∙ mark) (sym (trailer_is bytes head all) ∙ open_end) in
        record { records = whole; foot = sym (has_foot-none ours bytes whole) });
    ended = tt;
    nearer = tt;
    source = refl;
    kept = tt;
    reads = reads_then s before mid after block (Ok None) read.only (reads_as s mid after None None ends.only);
    spends = if_some-both _ _ _ (held_at s before) (stepped s before mid block start (Some head) (λ bytes. next_at ours bytes None 0 ≡ Some head) read found (λ bytes e is. e)) ends.few (λ bytes e few.
        record { reads = length (records_behind ours bytes (behind start head)) + 3; fewer = omega (arith, takes_twice bytes head e mark); made = omega (arith, few, read.once) });
    spends_lost = if_some-map (λ bytes. length bytes ≡ s.written) _ (held_at s before) read.inside.written (λ bytes e. tt);
  }

  pub first_lost : (head : Marker) (lost : Lost) → BlockRead s before mid block start → Some head ≡ record_in s start block → (head.part == 1) ≡ true → EndRead head (Err lost) → IsNext fresh fresh before after (Err lost)
  first_lost head lost read found mark ends = record {
    gives = if_some-map (λ bytes. length bytes ≡ s.written) _ (held_at s before) read.inside.written (λ bytes e. tt);
    ended = tt;
    nearer = tt;
    source = refl;
    kept = refl;
    reads = reads_then s before mid after block (Err lost) read.only (fails_as s mid after lost ends.only);
    spends = if_some-map (λ bytes. length bytes ≡ s.written) _ (held_at s before) read.inside.written (λ bytes e. tt);
    spends_lost = if_some-both _ _ _ (held_at s before) (stepped s before mid block start (Some head) (λ bytes. next_at ours bytes None 0 ≡ Some head) read found (λ bytes e is. e)) ends.few (λ bytes e few.
        omega (arith, takes_twice bytes head e mark, few, read.once));
  }

-- ---- a walk to the end

-- so many records were read since `from`
pub record Walked (s : Source) (before now : BayState) (from walk : Walk) (records : ℕ) : Type 0 where
  pub only : OnlyReadsOf {T = ℕ} s before now (Ok 0)
  pub reads : ReadsAtMost records before now
  pub within : 512 * walk.block ≤ s.written
  pub count : records ≤ walk.block
  pub told : IfSome (held_at s before) (λ bytes. (end_of (array_of s) bytes walk ≡ end_of (array_of s) bytes from) × (records + length (records_behind (array_of s) bytes walk) ≡ length (records_behind (array_of s) bytes from)))

pub walked_none : (s : Source) (bay : BayState) (from : Walk) → IsIn bay s → 512 * from.block ≤ s.written → Walked s bay bay from from 0
walked_none s bay from inside within = record {
  only = nothing_read s bay 0;
  reads = omega arith;
  within = within;
  count = omega arith;
  told = if_some-map (λ bytes. length bytes ≡ s.written) _ (held_at s bay) inside.written (λ bytes e. (refl, omega arith));
}

module _ (s : Source) (before mid after : BayState) (from walk : Walk) (records : ℕ) (block : List ℕ) (inside : IsIn before s) (walked : Walked s before mid from walk records) where
  -- what is known of the next block, also of what was held at first
  pub record NextRead : Type 0 where
    pub shows : IfSome (held_at s mid) (λ bytes. block ≡ shown bytes walk.block)
    pub only : OnlyReadsOf s mid after (Ok block)
    pub once : ReadsAtMost 1 mid after

  read_at_mid : NextRead → BlockRead s mid after block walk
  read_at_mid read = record { inside = IsIn-after s before mid (Ok 0) walked.only inside; shows = read.shows; only = read.only; once = read.once }

  at_first : (R : List ℕ → Type 0) → IfSome (held_at s mid) R → IfSome (held_at s before) R
  at_first R is = subst (λ (o : Option (List ℕ)). IfSome o R) (held_after s before mid (Ok 0) walked.only) is

  pub walked_more : (m : Marker) → NextRead → Some m ≡ record_in s walk block → Walked s before after from (behind walk m) (records + 1)
  walked_more m read found =
      let a = array_of s in
      let next : IfSome (held_at s before) (λ bytes. next_at a bytes (before_of walk) walk.block ≡ Some m) =
      at_first _ (stepped s mid after block walk (Some m) (λ bytes. next_at a bytes (before_of walk) walk.block ≡ Some m) (read_at_mid read) found (λ bytes e is. e)) in
      let within = record_in-within s walk block m found in
      record {
        only = reads_then s before mid after 0 (Ok 0) walked.only (reads_as s mid after block 0 read.only);
        reads = omega (arith, walked.reads, read.once);
        within = within;
        count = omega (arith, walked.count);
        told = if_some-both _ _ _ (held_at s before) next walked.told (λ bytes e so_far.
            (sym (end_of-some s mid after block walk bytes m e) ∙ so_far.0, omega (arith, so_far.1, ap length (records_behind-some a bytes walk m e))));
      }

  pub walked_end : NextRead → None ≡ record_in s walk block → IfSome (held_at s before) (λ bytes. IsEndOf (array_of s) bytes from (record { walk = walk; records = records; block = block }))
  walked_end read found =
      let a = array_of s in
      let next : IfSome (held_at s before) (λ bytes. (next_at a bytes (before_of walk) walk.block ≡ None) × (block ≡ shown bytes walk.block)) =
      at_first _ (stepped s mid after block walk None (λ bytes. (next_at a bytes (before_of walk) walk.block ≡ None) × (block ≡ shown bytes walk.block)) (read_at_mid read) found (λ bytes e is. (e, is))) in
      if_some-both _ _ _ (held_at s before) next walked.told (λ bytes h so_far. record {
        walk = sym (end_of-none s mid after block walk bytes h.0) ∙ so_far.0;
        records = omega (arith, so_far.1, ap length (records_behind-none a bytes walk h.0));
        block = h.1;
      })

-- what is told of the end of a rebuilt zone
pub rebuilt_is : (array : Array) (bytes block behind_it : List ℕ) (from walk : Walk) (records : ℕ) (foot ended : Bool) → IsEndOf array bytes from (record { walk = walk; records = records; block = block })
    → foot ≡ holds_foot (foot_seen walk.digest walk.last) block → behind_it ≡ shown bytes (place_behind walk foot) → ended ≡ ends_zone array walk.last (marker_in_block behind_it)
    → cond ended (counted_end records foot) None ≡ rebuilt_end array bytes from
rebuilt_is array bytes block behind_it from walk records foot ended is foot-is behind-is ended-is =
    let f : foot ≡ foot_at bytes walk = foot-is ∙ ap (holds_foot (foot_seen walk.digest walk.last)) is.block ∙ foot_shown bytes walk.block (foot_seen walk.digest walk.last) in
    let place = place_behind walk foot in
    let t : ended ≡ trailer_at array bytes walk =
    ended-is ∙ ap (λ (l : List ℕ). ends_zone array walk.last (marker_in_block l)) behind-is ∙ ap (ends_zone array walk.last) (marker_shown bytes place)
    ∙ ap (λ (b : Bool). ends_zone array walk.last (marker_in_block (block_at bytes (place_behind walk b)))) f in
    (λ i. cond (t i) (counted_end (is.records i) (f i)) None)
    ∙ ap (λ (w : Walk). cond (trailer_at array bytes w) (counted_end (length (records_behind array bytes from)) (foot_at bytes w)) None) is.walk

pub rebuilt_told : {T : Type 0} (s : Source) (before mid : BayState) (x : T) (from walk : Walk) (records : ℕ) (block behind_it : List ℕ) (foot ended : Bool) → OnlyReadsOf s before mid (Ok x)
    → IfSome (held_at s before) (λ bytes. IsEndOf (array_of s) bytes from (record { walk = walk; records = records; block = block }))
    → IfSome (held_at s mid) (λ bytes. block ≡ shown bytes walk.block → behind_it ≡ shown bytes (place_behind walk foot))
    → foot ≡ holds_foot (foot_seen walk.digest walk.last) block → ended ≡ ends_zone (array_of s) walk.last (marker_in_block behind_it)
    → IfSome (held_at s before) (λ bytes. cond ended (counted_end records foot) None ≡ rebuilt_end (array_of s) bytes from)
rebuilt_told s before mid x from walk records block behind_it foot ended reads ends shows foot-is ended-is =
    let behind_first : IfSome (held_at s before) (λ bytes. block ≡ shown bytes walk.block → behind_it ≡ shown bytes (place_behind walk foot)) =
    subst (λ (o : Option (List ℕ)). IfSome o (λ bytes. block ≡ shown bytes walk.block → behind_it ≡ shown bytes (place_behind walk foot))) (held_after s before mid (Ok x) reads) shows in
    if_some-both _ _ _ (held_at s before) ends behind_first (λ bytes is behind-is. rebuilt_is (array_of s) bytes block behind_it from walk records foot ended is foot-is (behind-is is.block) ended-is)

pub none_from : (o : Option Marker) → ((m : Marker) → o ≡ Some m → ⊥) → o ≡ None
none_from None none = refl
none_from (Some m) none = absurd (none m refl)

-- what a call told of the bay as it was by then, it told of the bay as it was at first
pub end_read : (s : Source) (before mid after : BayState) (block : List ℕ) (head : Marker) (from : Walk) (r : Result (Option (ℕ × Bool)) Lost) → OnlyReadsOf s before mid (Ok block) → from ≡ behind start head
    → IfSome (held_at s mid) (λ bytes. IfOk r (λ end. end ≡ rebuilt_end (array_of s) bytes from)) → OnlyReadsOf s mid after r
    → IfSome (held_at s mid) (λ bytes. ReadsAtMost (length (records_behind (array_of s) bytes from) + 2) mid after) → EndRead s before mid after block head r
end_read s before mid after block head from r reads from-is ends only few =
    let here = held_after s before mid (Ok block) reads in
    record {
      is_end = subst (λ (w : Walk). IfSome (held_at s before) (λ bytes. IfOk r (λ end. end ≡ rebuilt_end (array_of s) bytes w))) from-is (subst (λ (o : Option (List ℕ)). IfSome o (λ bytes. IfOk r (λ end. end ≡ rebuilt_end (array_of s) bytes from))) here ends);
      only = only;
      few = subst (λ (w : Walk). IfSome (held_at s before) (λ bytes. ReadsAtMost (length (records_behind (array_of s) bytes w) + 2) mid after)) from-is (subst (λ (o : Option (List ℕ)). IfSome o (λ bytes. ReadsAtMost (length (records_behind (array_of s) bytes from) + 2) mid after)) here few);
    }
