-- What the queue keeps between any two steps.
use Rattle.std.specs.Prelude.{◌≡◌, ℕ, ◌<◌, ◌^◌, Bool, true, false, List, [], ◌++◌, Option, length}
use Rattle.std.specs.List.{sum_by}
use mathlib.Core.Option.{some}
use lib.ListN.{get_elem?}
use Rattle.job_queue.specs.declared.hand.Hand.{Hand}
use Rattle.job_queue.specs.Lists.{MarksBehind, EachInOrder, weight}

-- 1 for the pass that was made first, or that it was joined into
abbrev pub one_if : Bool → ℕ
one_if true = 1
one_if false = 0

-- what is known of the queue: whose seats the owner and the first pass have, how many passes were made, what was put, and what has left the queue
pub record State (L : Type 0) : Type 0 where
  pub owner : ℕ
  pub first : ℕ
  pub made : ℕ
  pub put : List (Option (ℕ × L))
  pub gone : List (Option (ℕ × L))

module _ {L : Type 0} where
  -- the pass at a seat knows its part of it
  pub record Fits (s : State L) (seat : ℕ) (v : Hand L) : Type 0 where
    pub owner : v.owner ≡ true → (seat ≡ s.owner) × (v.made ≡ s.made)
    pub other : v.owner ≡ false → v.made ≡ 0
    pub first : v.first ≡ true → (seat ≡ s.first) × (v.put ≡ s.put)
    pub later : v.first ≡ false → v.put ≡ []
    pub idle : length v.taken ≡ 0 → v.first ≡ false
    pub order : EachInOrder v.taken s.gone

  -- what was put is what has left the queue and what it holds; what has left it, the passes took, each thing once and each pass in order
  pub record Kept (items : List (Option (ℕ × L))) (views : List (Hand L)) : Type 0 where
    pub state : State L
    pub whole : state.put ≡ state.gone ++ items
    pub few : length items < 2 ^ 64
    pub behind : MarksBehind state.put
    pub begun : state.made ≡ 0 → state.put ≡ []
    pub passes : sum_by (λ (v : Hand L). length v.taken) views ≡ state.made
    pub firsts : 0 < state.made → sum_by (λ (v : Hand L). one_if v.first) views ≡ 1
    pub each_once : (h : Option (ℕ × L) → ℕ) → sum_by (λ (v : Hand L). weight h v.taken) views ≡ sum_by h state.gone
    pub each : (seat : ℕ) (v : Hand L) → get_elem? views seat ≡ some v → Fits state seat v
