-- What follows from facts of what is told.
use Rattle.std.proofs.Common.{Option, Some, None, IfSome}
use Rattle.smore_base.specs.Told.{Told}

pub Told-same : {A : Type 0} (o : Option A) (P : A → A → Type 0) → ((x : A) → P x x) → Told o o P
Told-same None P each = tt
Told-same (Some x) P each = each x

-- one fact after another
pub Told-then : {A B C : Type 0} (a : Option A) (b : Option B) (c : Option C) (P : A → B → Type 0) (Q : B → C → Type 0) (R : A → C → Type 0) → Told a b P → Told b c Q → ((x : A) (y : B) (z : C) → P x y → Q y z → R x z) → Told a c R
Told-then None None None P Q R p q both = tt
Told-then None None (Some z) P Q R p q both = q
Told-then None (Some y) c P Q R p q both = absurd p
Told-then (Some x) None c P Q R p q both = absurd p
Told-then (Some x) (Some y) None P Q R p q both = q
Told-then (Some x) (Some y) (Some z) P Q R p q both = both x y z p q

pub Told-weaker : {A B : Type 0} (a : Option A) (b : Option B) (P Q : A → B → Type 0) → Told a b P → ((x : A) (y : B) → P x y → Q x y) → Told a b Q
Told-weaker None None P Q p more = tt
Told-weaker None (Some y) P Q p more = p
Told-weaker (Some x) None P Q p more = p
Told-weaker (Some x) (Some y) P Q p more = more x y p

-- two facts of one value
pub IfSome-both : {A : Type 0} (o : Option A) (P Q R : A → Type 0) → IfSome o P → IfSome o Q → ((x : A) → P x → Q x → R x) → IfSome o R
IfSome-both None P Q R p q both = tt
IfSome-both (Some x) P Q R p q both = both x p q
