-- What is told of the source, of the sink and of the store is told of all three.
use Rattle.std.proofs.Common.{ℕ, List, Option, Some, None}
use Rattle.smore_base.specs.Told.{Told}
use Rattle.store_core.specs.Store.{Store}
use Rattle.smore_top.specs.Headline.{Ends, ends_of}

pub told_ends_by : (l l' h h' : Option (List ℕ)) (s s' : Option Store) (P Q : List ℕ → List ℕ → Type 0) (R : Store → Store → Type 0) (X : Ends → Ends → Type 0)
    → Told l l' P → Told h h' Q → Told s s' R
    → ((left left' held held' : List ℕ) (store store' : Store) → P left left' → Q held held' → R store store' → X (record { left = left; held = held; store = store }) (record { left = left'; held = held'; store = store' }))
    → Told (ends_of l h s) (ends_of l' h' s') X
told_ends_by None None h h' s s' P Q R X p q r all = tt
told_ends_by None (Some left') h h' s s' P Q R X p q r all = absurd p
told_ends_by (Some left) None h h' s s' P Q R X p q r all = absurd p
told_ends_by (Some left) (Some left') None None s s' P Q R X p q r all = tt
told_ends_by (Some left) (Some left') None (Some held') s s' P Q R X p q r all = absurd q
told_ends_by (Some left) (Some left') (Some held) None s s' P Q R X p q r all = absurd q
told_ends_by (Some left) (Some left') (Some held) (Some held') None None P Q R X p q r all = tt
told_ends_by (Some left) (Some left') (Some held) (Some held') None (Some store') P Q R X p q r all = absurd r
told_ends_by (Some left) (Some left') (Some held) (Some held') (Some store) None P Q R X p q r all = absurd r
told_ends_by (Some left) (Some left') (Some held) (Some held') (Some store) (Some store') P Q R X p q r all = all left left' held held' store store' p q r
