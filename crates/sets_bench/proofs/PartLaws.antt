-- Parts can be appended.
use Rattle.std.proofs.Common.{◌≡◌, ℕ, ◌+◌, ◌<◌, ◌≤◌, Bool, eqb, true, false, ◌&&◌, Result, Ok, Err, is_ok, MatchResult, List, [], ◌∷◌, ◌++◌, length, Option, Some, None, IfSome, refl, sym, ap, subst, ◌∙◌, arith}
use mathlib.Core.Bool.{false≢true}
use Rattle.std.specs.Prelude.{nat_le, not}
use Rattle.std.specs.Str.{bytes_eq}
use Rattle.std.proofs.lemmas.Bool.{le-leb, and_parts, eqb-true}
use Rattle.std.proofs.lemmas.Slice.Eq.{bytes_eq-Decides}
use Rattle.smore_base.specs.declared.geometry.Geometry.{Geometry}
use Rattle.zone_bay.specs.Contents.{Contents, IsOfBay}
use Rattle.zone_bay.specs.Bay.{BayState}
use Rattle.rs_code.specs.Coded.{CodedPayload}
use Rattle.marker_format.specs.declared.marker.Marker.{Marker}
use Rattle.marker_format.specs.Marker.{is_well_formed}
use Rattle.marker_format.specs.Zone.{Array, belongs}
use Rattle.marker_format.proofs.MarkerRules.{Widths, IsMarker-from}
use Rattle.marker_format.proofs.PlainMarkers.{with_index}
use Rattle.set_table.specs.Table.{Table}
use Rattle.set_writer.specs.Entry.{Entry, at_index}
use Rattle.set_writer.specs.Members.{Spreads}
use Rattle.set_table.specs.Table.{array_of}
use Rattle.set_writer.specs.Writer.{Writer, array_by, behind, written, Fits, is_appended, IsAppended}
use Rattle.set_writer.specs.Calls.{FitsIn, IsOf, Opens}
use Rattle.set_writer.proofs.BeganLaws.{of_now}
use Rattle.set_writer.proofs.WroteLaws.{written-stays}
use Rattle.sets_bench.specs.Ready.{IsReady, IsOurs, part_marker}

-- the array's geometry
abbrev pub ours : Geometry
ours = record { drives = 6; k = 4; p = 2; zones = 4; blocks = 524288; shard = 65408 }

-- found by its fields
pub geometry_is : (g : Geometry) → false ≡ not (eqb g.drives 6 && (eqb g.k 4 && (eqb g.p 2 && (eqb g.zones 4 && (eqb g.blocks 524288 && eqb g.shard 65408))))) → g ≡ ours
geometry_is g found =
    let all = not_not _ found in
    let a = and_parts _ _ all in
    let b = and_parts _ _ a.1 in
    let c = and_parts _ _ b.1 in
    let d = and_parts _ _ c.1 in
    let e = and_parts _ _ d.1 in
    from g (eqb-true g.drives 6 a.0) (eqb-true g.k 4 b.0) (eqb-true g.p 2 c.0) (eqb-true g.zones 4 d.0) (eqb-true g.blocks 524288 e.0) (eqb-true g.shard 65408 e.1)
  where
    not_not : (b : Bool) → false ≡ not b → b ≡ true
    not_not true h = refl
    not_not false h = absurd (false≢true h)

    from : (g : Geometry) → g.drives ≡ 6 → g.k ≡ 4 → g.p ≡ 2 → g.zones ≡ 4 → g.blocks ≡ 524288 → g.shard ≡ 65408 → g ≡ ours
    from g drives k p zones blocks shard =
        ap (λ d. record g { drives = d }) drives
        ∙ ap (λ k. record { drives = 6; k = k; p = g.p; zones = g.zones; blocks = g.blocks; shard = g.shard }) k
        ∙ ap (λ p. record { drives = 6; k = 4; p = p; zones = g.zones; blocks = g.blocks; shard = g.shard }) p
        ∙ ap (λ z. record { drives = 6; k = 4; p = 2; zones = z; blocks = g.blocks; shard = g.shard }) zones
        ∙ ap (λ b. record { drives = 6; k = 4; p = 2; zones = 4; blocks = b; shard = g.shard }) blocks
        ∙ ap (λ s. record { drives = 6; k = 4; p = 2; zones = 4; blocks = 524288; shard = s }) shard

both : (a b : Bool) → a ≡ true → b ≡ true → (a && b) ≡ true
both true b first second = second
both false b first second = first

belongs_to : (array : List ℕ) (set position payload : ℕ) → payload ≤ 261632 → belongs (record { geometry = ours; id = array }) (part_marker array set position payload) ≡ true
belongs_to array set position payload few = both (bytes_eq array array) (nat_le payload 261632) ((bytes_eq-Decides array array).1 refl) (le-leb payload 261632 few)

-- the part can be appended
pub appendable : (w : Writer) (t : Table) (m : Marker) (body : CodedPayload) (payload : ℕ) → array_by w ≡ array_of t → t.geometry ≡ ours → IsOurs body → m ≡ part_marker t.array w.set w.records payload → payload ≡ length body.payload → payload ≤ 261632 → Widths m → is_well_formed m ≡ true → IsAppended w m body
appendable w t m body payload array geometry code is long few wide formed =
    let g : w.geometry ≡ ours = ap (λ (a : Array). a.geometry) array ∙ geometry in
    let own : array_by w ≡ record { geometry = ours; id = t.array } = array ∙ ap (λ g. record { geometry = g; id = t.array }) geometry in
    let n : w.geometry.k + w.geometry.p ≡ m.n = ap (λ (g : Geometry). g.k + g.p) g ∙ sym (ap (λ (m : Marker). m.n) is) in
    record {
      entry = record {
        markers = λ index below. with_index m index (omega (arith, below, n)) (IsMarker-from m wide formed);
        ours = subst (λ (a : Array). belongs a m ≡ true) (sym own) (subst (λ (m : Marker). belongs (record { geometry = ours; id = t.array }) m ≡ true) (sym is) (belongs_to t.array w.set w.records payload few));
        payload = sym long ∙ sym (ap (λ (m : Marker). m.payload) is);
      };
      kind = ap is_appended is;
      set_is = ap (λ (m : Marker). m.set) is;
      position_is = ap (λ (m : Marker). m.position) is;
      code = (code.k ∙ sym (ap (λ (g : Geometry). g.k) g), code.p ∙ sym (ap (λ (g : Geometry). g.p) g));
    }

-- ---- room for more

keeps_some : (w w' : Writer) (t : Table) (o : Option Contents) → ((es : List Entry) (t : Table) (held : Contents) → Fits w es t held → Fits w' es t held) → IfSome o (λ held. (es : List Entry) × Fits w es t held) → IfSome o (λ held. (es : List Entry) × Fits w' es t held)
keeps_some w w' t None keeps fits = tt
keeps_some w w' t (Some held) keeps fits = (fits.0, keeps fits.0 t held fits.1)

-- with more room it can append still
pub reserved : (w w' : Writer) (t : Table) (bay : BayState) → w' ≡ record w { room = w'.room } → ((es : List Entry) (t : Table) (held : Contents) → Fits w es t held → Fits w' es t held) → IsReady w t bay → IsReady w' t bay
reserved w w' t bay is keeps ready = record {
  of = subst (λ (v : Writer). IsOf v t bay) (sym is) (record { array = ready.of.array; shape = ready.of.shape });
  open_ = ap (λ (v : Writer). v.is_closed) is ∙ ready.open_;
  held = keeps_some w w' t bay.contents keeps ready.held;
}

-- ---- one part more

for_some : (w : Writer) (t : Table) (o : Option Contents) → IfSome o (λ held. (es : List Entry) × Fits w es t held) → (es : List Entry) × IfSome o (Fits w es t)
for_some w t None fits = ([], tt)
for_some w t (Some held) fits = (fits.0, fits.1)

some_for : (w : Writer) (es : List Entry) (t : Table) (o : Option Contents) → IfSome o (Fits w es t) → IfSome o (λ held. (es : List Entry) × Fits w es t held)
some_for w es t None fits = tt
some_for w es t (Some held) fits = (es, fits)

pub answered : {T E : Type 0} (r : Result T E) (P : T → Type 0) (Q : E → Type 0) → is_ok r ≡ true → MatchResult r P Q → (x : T) × P x
answered (Ok x) P Q ok h = (x, h)
answered (Err e) P Q ok h = absurd (false≢true ok)

pub appended : (w w' : Writer) (t t' : Table) (old new : BayState) (m : Marker) (body : CodedPayload) (more : ℕ → List ℕ) → IsReady w t old → w' ≡ behind w m → Spreads w.set more t t' old new
    → ((es : List Entry) → FitsIn w es t old → FitsIn w' (es ++ record { marker = at_index 0 m; payload = body.payload } ∷ []) t' new) → IsReady w' t' new
appended w w' t t' old new m body more ready is spread held =
    let before = for_some w t old.contents ready.held in
    record {
      of = of_now w w' t t' old new (ap array_by is) spread.grows.table spread.grows.leads.toward.goes_on.same_shape ready.of;
      open_ = ap (λ (v : Writer). v.is_closed) is ∙ ready.open_;
      held = some_for w' (before.0 ++ record { marker = at_index 0 m; payload = body.payload } ∷ []) t' new.contents (held before.0 before.1);
    }

-- ---- a set that was opened

pub opened : (w : Writer) (t t' : Table) (old new : BayState) (set room : ℕ) (es : List Entry) → w ≡ written w set es → array_by w ≡ array_of t → Opens set [] (record t { spare = room }) t' old new → IsOfBay t.geometry old.shape → FitsIn w es t' new → IsReady w t' new
opened w t t' old new set room es is array opens of_bay fits =
    let formed = ap array_of opens.forms.zones in
    let now = ap array_of opens.grows.table in
    let same : array_of t' ≡ array_of t = now ∙ formed in
    let shape = opens.grows.leads.toward.goes_on.same_shape in
    record {
      of = record {
        array = array ∙ sym same;
        shape = subst (IsOfBay t'.geometry) (sym shape) (subst (λ (g : Geometry). IsOfBay g old.shape) (sym (ap (λ (a : Array). a.geometry) same)) of_bay);
      };
      open_ = ap (λ (v : Writer). v.is_closed) is ∙ (written-stays w set es).open_;
      held = some_for w es t' new.contents fits;
    }
