-- What follows from a step of the store machine.
use Rattle.std.proofs.Common.{◌≡◌, ◌≢◌, ℕ, List, Option, Bool, true, false, Some, None, cond, refl, sym, ap, ◌∙◌}
use Rattle.std.specs.Cmp.{eq_by_cmp_equiv}
use Rattle.std.specs.Cmp.Lexicographic.{slice_cmp, nat_list_cmp_total}
use Rattle.std.specs.Ordering.{nat_cmp, eq_by_cmp}
use Rattle.std.proofs.lemmas.Map.Views.{tells_apart}
use Rattle.std.specs.FinMap as map
use Rattle.rs_code.specs.Blob.{CutBytes}
use Rattle.smore_base.specs.Objects.{Value, Map, Whole}
use Rattle.object_machine.specs.declared.op.Op.{Op}
use Rattle.object_machine.specs.declared.op.Op.TheVariants.{Put, Get, Delete, List as ListNames}
use Rattle.object_machine.specs.declared.reply.Reply.{Reply}
use Rattle.object_machine.specs.declared.reply.Reply.TheVariants.{Done, Object, NotFound, Names, Refused}
use Rattle.object_machine.specs.State.{State, EqualButLost, OnlyLoses, Step, with_object}
use Rattle.object_machine.specs.Laws.{PutIsKept, PutKeepsOthers, DeletedIsGone, DeleteKeepsOthers, IsDonePut, AnswerDecides}

-- A name has what was put there.
put_there : (objects : Map) (name : List ℕ) (value : Value) → map.get (map.insert objects name value) name ≡ Some value
put_there objects name value =
    map.get-insert nat_list_cmp_total objects name value name
    ∙ ap (λ b. cond b (Some value) (map.get objects name)) ((eq_by_cmp_equiv nat_list_cmp_total).refl name)

pub put_is_kept : PutIsKept
put_is_kept old new name object step = ap (λ (objects : Map). map.get objects name) step.2.rest.objects ∙ put_there _ name (Whole object.bytes)

-- A name that was taken out has nothing.
taken_out : (objects : Map) (name : List ℕ) → map.get (map.remove objects name) name ≡ None
taken_out objects name =
    map.get-remove nat_list_cmp_total objects name name
    ∙ ap (λ b. cond b None (map.get objects name)) ((eq_by_cmp_equiv nat_list_cmp_total).refl name)

pub deleted_is_gone : DeletedIsGone
deleted_is_gone old new name step = ap (λ (objects : Map). map.get objects name) step.2.rest.objects ∙ taken_out _ name

-- Names that differ are told apart.
apart : (a b : List ℕ) → a ≢ b → eq_by_cmp (slice_cmp nat_cmp) a b ≡ false
apart a b differ = elim (eq_by_cmp (slice_cmp nat_cmp) a b) as (λ v. eq_by_cmp (slice_cmp nat_cmp) a b ≡ v → v ≡ false) [
  | true ↦ λ tied. absurd (differ (tells_apart (map.slice_cmp-IsAntisymmetric map.nat_cmp-IsAntisymmetric) a b tied))
  | false ↦ λ untied. refl
] refl

pub put_keeps_others : PutKeepsOthers
put_keeps_others old new name other object step differs =
    ap (λ (objects : Map). map.get objects other) step.2.rest.objects
    ∙ map.get-insert nat_list_cmp_total old.objects name (Whole object.bytes) other
    ∙ ap (λ b. cond b (Some (Whole object.bytes)) (map.get old.objects other)) (apart other name differs)

pub delete_keeps_others : DeleteKeepsOthers
delete_keeps_others old new name other step differs =
    ap (λ (objects : Map). map.get objects other) step.2.rest.objects
    ∙ map.get-remove nat_list_cmp_total old.objects name other
    ∙ ap (λ b. cond b None (map.get old.objects other)) (apart other name differs)

-- A state that stays as it is.
pub loses_none : (state : State) → OnlyLoses state state
loses_none state = record { rest = record { objects = refl }; stay_lost = λ device lost. lost }

-- states that came from equal ones, where nothing else became of them
still_equal : (old old' new new' : State) → EqualButLost old old' → OnlyLoses old new → OnlyLoses old' new' → EqualButLost new new'
still_equal old old' new new' equal one other = record { objects = other.rest.objects ∙ equal.objects ∙ sym one.rest.objects }

pub answer_decides : AnswerDecides
answer_decides old old' new new' (Put name object) Done equal one other = record {
  objects = other.2.rest.objects ∙ ap (λ (objects : Map). map.insert objects name (Whole object.bytes)) equal.objects ∙ sym one.2.rest.objects;
}
answer_decides old old' new new' (Put name object) (Refused why) equal one other = still_equal old old' new new' equal one.1 other.1
answer_decides old old' new new' (Put name object) reply equal one other = absurd one
answer_decides old old' new new' (Get name) (Object bytes) equal one other = still_equal old old' new new' equal one.2 other.2
answer_decides old old' new new' (Get name) NotFound equal one other = still_equal old old' new new' equal one.2 other.2
answer_decides old old' new new' (Get name) (Refused why) equal one other = still_equal old old' new new' equal one.2 other.2
answer_decides old old' new new' (Get name) reply equal one other = absurd one
answer_decides old old' new new' (Delete name) Done equal one other = record {
  objects = other.2.rest.objects ∙ ap (λ (objects : Map). map.remove objects name) equal.objects ∙ sym one.2.rest.objects;
}
answer_decides old old' new new' (Delete name) NotFound equal one other = still_equal old old' new new' equal one.2 other.2
answer_decides old old' new new' (Delete name) (Refused why) equal one other = still_equal old old' new new' equal one.2 other.2
answer_decides old old' new new' (Delete name) reply equal one other = absurd one
answer_decides old old' new new' (ListNames after limit) (Names names more) equal one other = still_equal old old' new new' equal one.2 other.2
answer_decides old old' new new' (ListNames after limit) (Refused why) equal one other = still_equal old old' new new' equal one.1 other.1
answer_decides old old' new new' (ListNames after limit) reply equal one other = absurd one

-- a state in which nothing changes keeps a name's absence
still_absent : (old new : State) (name : List ℕ) → map.get old.objects name ≡ None → OnlyLoses old new → map.get new.objects name ≡ None
still_absent old new name absent same = ap (λ (objects : Map). map.get objects name) same.rest.objects ∙ absent

absent_after_put : (old new : State) (put name : List ℕ) (object : CutBytes) → (put ≡ name → ⊥) → map.get old.objects name ≡ None → OnlyLoses (with_object old put object.bytes) new → map.get new.objects name ≡ None
absent_after_put old new put name object other absent same =
    ap (λ (objects : Map). map.get objects name) same.rest.objects
    ∙ map.get-insert nat_list_cmp_total old.objects put (Whole object.bytes) name
    ∙ ap (λ b. cond b (Some (Whole object.bytes)) (map.get old.objects name)) (apart name put (λ e. other (sym e)))
    ∙ absent

-- taking any name out leaves an absent one absent
without_still : (b : Bool) (found : Option Value) → found ≡ None → cond b None found ≡ None
without_still true found absent = refl
without_still false found absent = absent

-- A step that is no done put of the name leaves it absent.
pub stays_absent : (old new : State) (op : Op) (reply : Reply) (name : List ℕ) → map.get old.objects name ≡ None → (IsDonePut name op reply → ⊥) → Step old op reply new → map.get new.objects name ≡ None
stays_absent old new (Put put object) Done name absent other step = absent_after_put old new put name object other absent step.2
stays_absent old new (Put put object) (Refused why) name absent other step = still_absent old new name absent step.1
stays_absent old new (Put put object) reply name absent other step = absurd step
stays_absent old new (Get got) (Object bytes) name absent other step = still_absent old new name absent step.2
stays_absent old new (Get got) NotFound name absent other step = still_absent old new name absent step.2
stays_absent old new (Get got) (Refused why) name absent other step = still_absent old new name absent step.2
stays_absent old new (Get got) reply name absent other step = absurd step
stays_absent old new (Delete gone) Done name absent other step =
    ap (λ (objects : Map). map.get objects name) step.2.rest.objects
    ∙ map.get-remove nat_list_cmp_total old.objects gone name
    ∙ without_still (eq_by_cmp (slice_cmp nat_cmp) name gone) (map.get old.objects name) absent
stays_absent old new (Delete gone) NotFound name absent other step = still_absent old new name absent step.2
stays_absent old new (Delete gone) (Refused why) name absent other step = still_absent old new name absent step.2
stays_absent old new (Delete gone) reply name absent other step = absurd step
stays_absent old new (ListNames after limit) (Names names more) name absent other step = still_absent old new name absent step.2
stays_absent old new (ListNames after limit) (Refused why) name absent other step = still_absent old new name absent step.1
stays_absent old new (ListNames after limit) reply name absent other step = absurd step
