-- Calls on members, one behind the other.
use Rattle.std.proofs.Common.{◌≡◌, ◌⊎◌, inl, inr, ℕ, ◌≤◌, Bool, true, false, List, [], ◌++◌, length, Option, Some, None, IfSome, refl, sym, ap, subst, ◌∙◌, append_assoc, arith}
use Rattle.std.specs.Prelude.{◌||◌, option_map}
use Rattle.std.proofs.lemmas.Bool.{both_ways}
use Rattle.std.proofs.lemmas.List.{append-nil}
use Rattle.smore_base.specs.Told.{Told}
use Rattle.smore_base.proofs.Told.{Told-same, Told-then}
use Rattle.zone_bay.specs.Outside.{Rose}
use Rattle.zone_bay.specs.Contents.{Contents, Extends}
use Rattle.zone_bay.specs.Images.{ImageOf}
use Rattle.zone_bay.specs.Bay.{BayState, IsSound}
use Rattle.zone_bay.specs.Stretch.{GoesToward, IsOnTheWay}
use Rattle.zone_bay.proofs.Extends.{extends_itself, extends_then}
use Rattle.zone_bay.proofs.Toward.{toward_start, toward_weaker}
use Rattle.set_table.specs.declared.zone_use.ZoneUse.{ZoneUse}
use Rattle.set_table.specs.Table.{Table, use_at, is_live, Loses}
use Rattle.set_writer.specs.Members.{more_at, grown_by, Leads, GrowsBy, SpreadsBy, HasZone, FlushesBy}
use Rattle.zone_bay.proofs.TowardThen.{Further, images_behind, toward_then, fails_first, fails_second, toward_further, fails_further}

-- ---- what zones get

pub more_live : (t : Table) (more : ZoneUse → List ℕ) (d z : ℕ) → is_live t d ≡ true → more_at t more d z ≡ more (use_at t.zones d z)
unfolding more_at
more_live t more d z live = rw live refl

pub more_lost : (t : Table) (more : ZoneUse → List ℕ) (d z : ℕ) → is_live t d ≡ false → more_at t more d z ≡ []
unfolding more_at
more_lost t more d z lost = rw lost refl

-- a device is live or lost
pub live_or_lost : (t : Table) (d : ℕ) → (is_live t d ≡ true) ⊎ (is_live t d ≡ false)
live_or_lost t d = at_one (is_live t d) refl
  where
    at_one : (b : Bool) → is_live t d ≡ b → (is_live t d ≡ true) ⊎ (is_live t d ≡ false)
    at_one true is = inl is
    at_one false is = inr is

-- ---- calls that lead toward a goal

pub leads_nowhere : (goal : Contents → Contents) (t : Table) (bay : BayState) → ((held : Contents) → Extends held (goal held)) → Leads goal t t bay bay
leads_nowhere goal t bay extends = record {
  stays_lost = λ d live. live;
  toward = toward_start goal bay _ extends;
  rose = λ d loses. absurd (both_ways (is_live t d) loses.1 loses.0);
  failed = λ d loses. absurd (both_ways (is_live t d) loses.1 loses.0);
}

module _ (first second goal : Contents → Contents) (t t' t'' : Table) (old mid new : BayState) (sound : IsSound old) (sound' : IsSound mid)
    (a : Leads first t t' old mid) (b : Leads second t' t'' mid new) (further : Told old.contents mid.contents (Further first second goal)) where
  lost_then : (d : ℕ) → Loses t t' d → Loses t t'' d
  lost_then d loses = elim (live_or_lost t'' d) [
    | inl live ↦ absurd (both_ways (is_live t' d) loses.1 (b.stays_lost d live))
    | inr lost ↦ (loses.0, lost)
  ]

  lost_first : (d : ℕ) → Loses t' t'' d → Loses t t'' d
  lost_first d loses = (a.stays_lost d loses.0, loses.1)

  Q : ℕ → ℕ → Type 0
  Q d m = Loses t t'' d

  first_toward : GoesToward first old mid (λ d m. Loses t t'' d)
  first_toward = toward_weaker first old mid _ _ (λ d m. lost_then d) a.toward

  second_toward : GoesToward second mid new (λ d m. Loses t t'' d)
  second_toward = toward_weaker second mid new _ _ (λ d m. lost_first d) b.toward

  -- a device that was lost was lost by the first calls, or by the second
  when_lost : (d : ℕ) → Loses t t'' d → Loses t t' d ⊎ Loses t' t'' d
  when_lost d loses = elim (live_or_lost t' d) [ inl live ↦ inr (live, loses.1) | inr lost ↦ inl (loses.0, lost) ]

  rose_then : (d : ℕ) → Loses t t'' d → Rose (old.faults d) (new.faults d)
  rose_then d loses below = let x = a.toward.goes_on.no_fewer d in let y = b.toward.goes_on.no_fewer d in elim (when_lost d loses) [
    | inl first ↦ let r = a.rose d first (omega (arith, below, y)) in omega (arith, r, y)
    | inr second ↦ let r = b.rose d second below in omega (arith, r, x)
  ]

  pub leads_then : Leads goal t t'' old new
  leads_then = record {
    stays_lost = λ d live. a.stays_lost d (b.stays_lost d live);
    toward = toward_then first second goal old mid new _ sound sound' first_toward second_toward further;
    rose = rose_then;
    failed = λ d loses. elim (when_lost d loses) [
      | inl lost ↦ fails_first first second goal old mid new _ sound sound' first_toward second_toward further d (a.failed d lost)
      | inr lost ↦ fails_second first second goal old mid new _ sound sound' first_toward second_toward further d (b.failed d lost)
    ];
  }

  -- what crashes behind the first calls may leave
  pub leads_behind : (image : Contents) → ImageOf (option_map second mid.contents) mid.firm image → ImageOf (option_map goal old.contents) mid.firm image
  leads_behind image is = images_behind first second goal old mid new _ sound sound' first_toward second_toward further image is

-- ---- bytes that are spread over members

-- no bytes, and no call
pub grows_none : (more : ZoneUse → List ℕ) (t : Table) (bay : BayState) → ((u : ZoneUse) → more u ≡ []) → GrowsBy more t t bay bay
grows_none more t bay none = record {
  table = refl;
  leads = leads_nowhere (grown_by t more) t bay (λ held d z. (more_at t more d z, refl));
  whole = Told-same bay.contents _ (λ held d z live. sym (append-nil (held d z)) ∙ ap (λ (l : List ℕ). held d z ++ l) (sym (more_live t more d z live ∙ none (use_at t.zones d z))));
}

pub spreads_none : (more : ZoneUse → List ℕ) (t : Table) (bay : BayState) → ((u : ZoneUse) → more u ≡ []) → SpreadsBy more t t bay bay
spreads_none more t bay none = record { grows = grows_none more t bay none; firm = refl }

module _ (first second more : ZoneUse → List ℕ) (t t' t'' : Table) (old mid new : BayState) (sound : IsSound old) (sound' : IsSound mid)
    (a : GrowsBy first t t' old mid) (b : GrowsBy second t' t'' mid new) (both : (u : ZoneUse) → first u ++ second u ≡ more u) where
  same_zones : t'.zones ≡ t.zones
  same_zones = ap (λ (s : Table). s.zones) a.table

  -- both, one behind the other, on a drive that was live behind the first
  joined : (held at : Contents) (d z : ℕ) → is_live t' d ≡ true → at d z ≡ grown_by t first held d z → grown_by t' second at d z ≡ grown_by t more held d z
  joined held at d z live is =
      let before = a.leads.stays_lost d live in
      let used = use_at t.zones d z in
      ap (λ (l : List ℕ). l ++ more_at t' second d z) (is ∙ ap (λ (l : List ℕ). held d z ++ l) (more_live t first d z before))
      ∙ ap (λ (l : List ℕ). (held d z ++ first used) ++ l) (more_live t' second d z live ∙ ap (λ zones. second (use_at zones d z)) same_zones)
      ∙ append_assoc (held d z) (first used) (second used)
      ∙ ap (λ (l : List ℕ). held d z ++ l) (both used ∙ sym (more_live t more d z before))

  first_further : (held : Contents) → Extends (grown_by t first held) (grown_by t more held)
  first_further held d z = elim (live_or_lost t d) [
    | inl live ↦
        let used = use_at t.zones d z in (
          second used,
          ap (λ (l : List ℕ). held d z ++ l) (more_live t more d z live ∙ sym (both used))
              ∙ sym (append_assoc (held d z) (first used) (second used))
              ∙ ap (λ (l : List ℕ). (held d z ++ l) ++ second used) (sym (more_live t first d z live)),
        )
    | inr lost ↦ (
      [],
      ap (λ (l : List ℕ). held d z ++ l) (more_lost t more d z lost ∙ sym (more_lost t first d z lost))
          ∙ sym (append-nil (held d z ++ more_at t first d z)),
    )
  ]

  second_further : (held at : Contents) → ((d z : ℕ) → is_live t' d ≡ true → at d z ≡ grown_by t first held d z) → Extends at (grown_by t first held) → Extends (grown_by t' second at) (grown_by t more held)
  second_further held at whole part d z = elim (live_or_lost t' d) [
    | inl live ↦ ([], sym (joined held at d z live (whole d z live)) ∙ sym (append-nil (grown_by t' second at d z)))
    | inr lost ↦
        let behind = extends_then at (grown_by t first held) (grown_by t more held) part (first_further held) d z in
        (behind.0, behind.1 ∙ ap (λ (l : List ℕ). l ++ behind.0) (sym (append-nil (at d z)) ∙ ap (λ (l : List ℕ). at d z ++ l) (sym (more_lost t' second d z lost))))
  ]

  further : (o m : Option Contents) → Told o m (λ held at. IsOnTheWay held (grown_by t first held) old.firm at mid.firm) → Told o m (λ held at. (d z : ℕ) → is_live t' d ≡ true → at d z ≡ grown_by t first held d z) → Told o m (Further (grown_by t first) (grown_by t' second) (grown_by t more))
  further None None x w = tt
  further None (Some m) x w = x
  further (Some o) None x w = x
  further (Some o) (Some m) x w = (first_further o, second_further o m w x.extends)

  pub grows_then : GrowsBy more t t'' old new
  grows_then = record {
    table = b.table ∙ ap (λ (s : Table). record s { lost = t''.lost }) a.table;
    leads = leads_then (grown_by t first) (grown_by t' second) (grown_by t more) t t' t'' old mid new sound sound' a.leads b.leads (further old.contents mid.contents a.leads.toward.toward a.whole);
    whole = Told-then old.contents mid.contents new.contents _ _ _ a.whole b.whole (λ held at now x y d z live.
        let live' = b.leads.stays_lost d live in y d z live ∙ joined held at d z live' (x d z live'));
  }

  pub grows_behind : (image : Contents) → ImageOf (option_map (grown_by t' second) mid.contents) mid.firm image → ImageOf (option_map (grown_by t more) old.contents) mid.firm image
  grows_behind image is = leads_behind (grown_by t first) (grown_by t' second) (grown_by t more) t t' t'' old mid new sound sound' a.leads b.leads (further old.contents mid.contents a.leads.toward.toward a.whole) image is

pub spreads_then : (first second more : ZoneUse → List ℕ) (t t' t'' : Table) (old mid new : BayState) → IsSound old → IsSound mid → SpreadsBy first t t' old mid → SpreadsBy second t' t'' mid new → ((u : ZoneUse) → first u ++ second u ≡ more u) → SpreadsBy more t t'' old new
spreads_then first second more t t' t'' old mid new sound sound' a b both = record {
  grows = grows_then first second more t t' t'' old mid new sound sound' a.grows b.grows both;
  firm = b.firm ∙ a.firm;
}

-- ---- what is flushed

pub flushes_none : (test : ZoneUse → Bool) (t : Table) (bay : BayState) → ((u : ZoneUse) → test u ≡ false) → FlushesBy test t t bay bay
flushes_none test t bay none = record {
  table = refl;
  leads = leads_nowhere (λ held. held) t bay extends_itself;
  contents = refl;
  firm = told bay.contents;
  others = λ d z other. refl;
}
  where
    told : (o : Option Contents) → IfSome o (λ held. (d z : ℕ) → HasZone test t d → bay.firm d z ≡ length (held d z))
    told None = tt
    told (Some held) = λ d z has. absurd (both_ways (test (use_at t.zones d has.zone)) (none (use_at t.zones d has.zone)) has.passes)

module _ (first second test : ZoneUse → Bool) (t t' t'' : Table) (old mid new : BayState) (sound : IsSound old) (sound' : IsSound mid) (sound'' : IsSound new)
    (a : FlushesBy first t t' old mid) (b : FlushesBy second t' t'' mid new) (either : (u : ZoneUse) → test u ≡ (first u || second u)) where
  zones_stay : t'.zones ≡ t.zones
  zones_stay = ap (λ (s : Table). s.zones) a.table

  has_either : (u : ZoneUse) → test u ≡ true → (first u ≡ true) ⊎ (second u ≡ true)
  has_either u is = at_one (first u) (second u) (sym (either u) ∙ is)
    where
      at_one : (x y : Bool) → (x || y) ≡ true → (x ≡ true) ⊎ (y ≡ true)
      at_one true y e = inl refl
      at_one false y e = inr e

  has_first : (u : ZoneUse) → first u ≡ true → test u ≡ true
  has_first u is = either u ∙ ap (λ (x : Bool). x || second u) is

  has_second : (u : ZoneUse) → second u ≡ true → test u ≡ true
  has_second u is = either u ∙ ap (λ (y : Bool). first u || y) is ∙ at_one (first u)
    where
      at_one : (x : Bool) → (x || true) ≡ true
      at_one true = refl
      at_one false = refl

  still : (o m n : Option Contents) → m ≡ o → n ≡ m → Told o m (Further (λ held. held) (λ held. held) (λ held. held))
  still None None n x y = tt
  still None (Some m) n x y = absurd cc
  still (Some o) None n x y = absurd cc
  still (Some o) (Some m) n x y = let same : m ≡ o = cc in (extends_itself o, subst (λ (c : Contents). Extends c o) (sym same) (extends_itself o))

  -- what was firm is firm still
  firm_still : (m n : Option Contents) → n ≡ m → IfSome m (λ held. (d z : ℕ) → HasZone first t' d → mid.firm d z ≡ length (held d z)) → IfSome n (λ held. (d z : ℕ) → HasZone second t'' d → new.firm d z ≡ length (held d z))
      → Told m n (λ held at. IsOnTheWay held held mid.firm at new.firm) → IfSome n (λ held. (d z : ℕ) → new.firm d z ≤ length (held d z)) → IfSome n (λ held. (d z : ℕ) → HasZone test t'' d → new.firm d z ≡ length (held d z))
  firm_still m None is x y way within = tt
  firm_still None (Some n) is x y way within = absurd cc
  firm_still (Some m) (Some n) is x y way within = λ d z has. elim (has_either (use_at t.zones d has.zone) (subst (λ zones. test (use_at zones d has.zone) ≡ true) (b_zones ∙ zones_stay) has.passes)) [
    | inl one ↦
        let same : n ≡ m = cc in
        let was = x d z (record { live = b.leads.stays_lost d has.live; zone = has.zone; passes = subst (λ zones. first (use_at zones d has.zone) ≡ true) (sym zones_stay) one }) in
        let less = way.no_less d z in
        let most = within d z in
        let long : length (n d z) ≡ length (m d z) = ap (λ (c : Contents). length (c d z)) same in
        omega (arith, was, less, most, long)
    | inr two ↦ y d z (record { live = has.live; zone = has.zone; passes = subst (λ zones. second (use_at zones d has.zone) ≡ true) (sym (b_zones ∙ zones_stay)) two })
  ]
    where
      b_zones : t''.zones ≡ t'.zones
      b_zones = ap (λ (s : Table). s.zones) b.table

  pub flushes_then : FlushesBy test t t'' old new
  flushes_then = record {
    table = b.table ∙ ap (λ (s : Table). record s { lost = t''.lost }) a.table;
    leads = leads_then (λ held. held) (λ held. held) (λ held. held) t t' t'' old mid new sound sound' a.leads b.leads (still old.contents mid.contents new.contents a.contents b.contents);
    contents = b.contents ∙ a.contents;
    firm = firm_still mid.contents new.contents b.contents (subst (λ (o : Option Contents). IfSome o (λ held. (d z : ℕ) → HasZone first t' d → mid.firm d z ≡ length (held d z))) refl a.firm) b.firm b.leads.toward.toward sound''.firm_held;
    others = λ d z other.
        b.others d z (λ (has : HasZone second t' d). other (record { live = a.leads.stays_lost d has.live; zone = has.zone; passes = has_second (use_at t.zones d has.zone) (subst (λ zones. second (use_at zones d has.zone) ≡ true) zones_stay has.passes) }))
        ∙ a.others d z (λ (has : HasZone first t d). other (record { live = has.live; zone = has.zone; passes = has_first (use_at t.zones d has.zone) has.passes }));
  }

-- the same calls, toward a goal that lies further
pub leads_further : (first goal : Contents → Contents) (t t' : Table) (old new : BayState) → IsSound old → ((held : Contents) → Extends (first held) (goal held)) → Leads first t t' old new → Leads goal t t' old new
leads_further first goal t t' old new sound further leads = record {
  stays_lost = leads.stays_lost;
  toward = toward_further first goal old new _ sound leads.toward further;
  rose = leads.rose;
  failed = λ d loses. fails_further first goal old new _ sound leads.toward further d (leads.failed d loses);
}

-- a flush puts nothing anywhere
pub flush_grows : (test : ZoneUse → Bool) (none : ZoneUse → List ℕ) (t t' : Table) (old new : BayState) → IsSound old → ((u : ZoneUse) → none u ≡ []) → FlushesBy test t t' old new → GrowsBy none t t' old new
flush_grows test none t t' old new sound empty flushed = record {
  table = flushed.table;
  leads = leads_further (λ held. held) (grown_by t none) t t' old new sound (λ held d z. (more_at t none d z, refl)) flushed.leads;
  whole = at_told old.contents new.contents flushed.contents;
}
  where
    nothing : (d z : ℕ) → more_at t none d z ≡ []
    nothing d z = elim (live_or_lost t d) [ inl live ↦ more_live t none d z live ∙ empty (use_at t.zones d z) | inr lost ↦ more_lost t none d z lost ]

    each : (held : Contents) (d z : ℕ) → grown_by t none held d z ≡ held d z
    each held d z = ap (λ (l : List ℕ). held d z ++ l) (nothing d z) ∙ append-nil (held d z)

    at_told : (o n : Option Contents) → n ≡ o → Told o n (λ held at. (d z : ℕ) → is_live t' d ≡ true → at d z ≡ grown_by t none held d z)
    at_told None None is = tt
    at_told None (Some n) is = absurd cc
    at_told (Some o) None is = absurd cc
    at_told (Some o) (Some n) is = λ d z live. let at : n ≡ o = cc in ap (λ (c : Contents). c d z) at ∙ sym (each o d z)
