use Rattle.std.proofs.Common.{◌≡◌, ℕ, List, [], ◌∷◌, Vec, Global, length, refl, sym, ap, subst, ◌∙◌, arith}
use Rattle.std.proofs.Common.{◌+◌, ◌++◌, Result, Ok, Err, IfErr}
use Rattle.std.specs.List.{AllByRecursion}
use Rattle.std.proofs.lemmas.List.{length-map}
use Rattle.smore_base.specs.Name.{IsName}
use Rattle.store_core.specs.declared.index.Note.{Note}
use Rattle.store_core.specs.Extent.{names_above}
use Rattle.store_core.specs.Index.{notes_in}
use Rattle.store_core.proofs.Listing.{names_of, IsListed, listing_begins, listed_next, listed_all, listed_few, listed_most, listed_others, left_by_next}
use Rattle.store_core.proofs.index.Index.names_above.Goals as goal
use Rattle.store_core.proofs.index.Index.names_above.Goals.{in-Ok+in_ok-push, in_default-new}

abbrev items : Vec ℕ Global → List ℕ
items k = k.items

never_bad : {A E P : Type 0} (F : E → Type 0) (r : Result A E) → ((x : A) → r ≡ Ok x → ⊥) → IfErr r (λ e. F e × (P → ⊥)) → P → ⊥
never_bad F (Ok x) none bad is = none x refl
never_bad F (Err e) none bad is = bad.1 is

pub loop-init : goal.loop-init
loop-init c =
    let begins = listing_begins items c.in_ok-after.after c.args.after.now c.args.self.now.names.entries c.in_ok-after.ensures.items c.range-above.ensures.ordered c.requires in
    let between = c.range-above.ensures.between tt in
    record {
      rest = ap (λ (l : List (List ℕ)). l ++ names_of items c.range-above.result) c.new-list.ensures ∙ ap (names_of items) between ∙ begins.rest;
      long = ap length c.new-list.ensures;
      names = subst (λ (es : List (Vec ℕ Global × Note)). AllByRecursion IsName (names_of items es)) (sym between) begins.names;
    }

pub returns-in_default-clause-names : goal.returns-in_default-clause-names
returns-in_default-clause-names c =
    listed_all _ c.loop.list (names_of items c.loop.above) c.loop.counter c.args.most c.loop.invariant (ap (names_of items) c.in_default.ensures.steps.0) (omega (arith, c.loop-test.true))

pub returns-in_default-clause-more : goal.returns-in_default-clause-more
returns-in_default-clause-more c =
    let few = listed_few _ c.loop.list (names_of items c.loop.above) c.loop.counter c.loop.invariant (ap (names_of items) c.in_default.ensures.steps.0) in
    (λ t. absurd cc, λ l. absurd (omega (arith, l, few, c.loop-test.true)))

pub loop-preserved : goal.loop-preserved
loop-preserved c =
    let all = names_above (notes_in c.args.self.now) c.args.after.now in
    let so_far : IsListed all c.loop.list (c.in-Some.key.now.items ∷ names_of items c.next.new.self) c.loop.counter =
    subst (λ (es : List (Vec ℕ Global × Note)). IsListed all c.loop.list (names_of items es) c.loop.counter) c.in-Some.ensures.steps c.loop.invariant in
    let next = listed_next all c.loop.list (names_of items c.next.new.self) c.in-Some.key.now.items c.loop.counter so_far in
    elim c.match-new.branch [
      | in-Ok+in_ok-push w ↦
          let name = w.in-Ok.ensures.name.0 ∙ c.deref.ensures.value in
          subst (λ (l : List (List ℕ)). IsListed all l (names_of items c.next.new.self) (c.loop.counter + 1))
          (sym (w.list-is ∙ w.in_ok-push.ensures ∙ ap (λ (n : List ℕ). c.loop.list ++ n ∷ []) name)) next
      | in_default-new w ↦ absurd (never_bad _ c.new.result w.in_default-new.not-Ok c.new.ensures.bad (subst IsName (sym c.deref.ensures.value) so_far.names.0))
    ]

pub returns-clause-names : goal.returns-clause-names
returns-clause-names c =
    let all = names_above (notes_in c.args.self.now) c.args.after.now in
    let counted : c.loop.counter ≡ c.args.most = omega (arith, c.loop-test.false, c.loop.auto.counter-end) in
    listed_most all c.loop.list (names_of items c.loop.above) c.args.most (subst (λ n. IsListed all c.loop.list (names_of items c.loop.above) n) counted c.loop.invariant)

pub returns-clause-more : goal.returns-clause-more
returns-clause-more c =
    let all = names_above (notes_in c.args.self.now) c.args.after.now in
    let left = left_by_next c.next-2.result c.is_some.result c.loop.above _ _ c.is_some.ensures c.next-2.ensures.steps (λ s. s.0) (λ x is. omega (arith, ap length is)) in
    let counted : c.loop.counter ≡ c.args.most = omega (arith, c.loop-test.false, c.loop.auto.counter-end) in
    let others = listed_others all c.loop.list (names_of items c.loop.above) c.args.most (subst (λ n. IsListed all c.loop.list (names_of items c.loop.above) n) counted c.loop.invariant) in
    let as_many = length-map c.loop.above (λ (e : Vec ℕ Global × Note). e.0.items) in
    (λ t. omega (arith, left.0 t, others, as_many), λ l. left.1 (omega (arith, l, others, as_many)))
