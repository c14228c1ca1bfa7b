-- What is known of what was put and taken, once passes are joined into one.
use Rattle.std.specs.Prelude.{◌≡◌, ℕ, ◌<◌, ◌^◌, true, List, ◌++◌, Option, length}
use Rattle.job_queue.specs.declared.hand.Hand.{Hand}
use Rattle.job_queue.specs.Lists.{links_of, MarksBehind, EachInOrder, EachOnce}
use Rattle.job_queue.specs.Hands.{marks_taken}

module _ {L : Type 0} where
  -- each of the passes in it took what was put in that order, once the first one is among them
  abbrev pub KnowsOrder : Hand L → Type 0
  KnowsOrder v = v.first ≡ true → EachInOrder v.taken v.put

  -- of what was put, some was taken, and then the rest is left
  pub record Parted (v : Hand L) (gone rest : List (Option (ℕ × L))) : Type 0 where
    -- what was put is what was taken and, behind it, what is left
    pub whole : v.put ≡ gone ++ rest
    -- what the passes took is what was taken, each link and each mark once
    pub each_once : EachOnce v.taken gone
    -- each pass took it in the order in which it was put
    pub in_order : EachInOrder v.taken gone

  -- what the pass knows where the queue holds these
  pub record KnowsAll (v : Hand L) (items : List (Option (ℕ × L))) : Type 0 where
    pub gone : List (Option (ℕ × L))
    pub parted : Parted v gone items
    pub few : length items < 2 ^ 64
    pub behind : MarksBehind v.put

  -- what the pass put and took, where so many links are left
  pub record Ending (v : Hand L) (left : ℕ) : Type 0 where
    pub gone : List (Option (ℕ × L))
    pub rest : List (Option (ℕ × L))
    pub parted : Parted v gone rest
    pub counted : left ≡ length (links_of rest)
    -- where a mark was taken, no link is left
    pub closed : 0 < marks_taken v → left ≡ 0
