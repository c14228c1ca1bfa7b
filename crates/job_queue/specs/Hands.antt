-- What a pass knows, and what each call makes of it.
use Rattle.std.specs.Prelude.{◌≡◌, ℕ, ◌+◌, Bool, true, false, ◌||◌, [], ◌∷◌, ◌++◌, Option, None, length, replicate}
use Rattle.std.specs.List.{sum_by}
use Rattle.job_queue.specs.declared.hand.Hand.{Hand}
use Rattle.job_queue.specs.Lists.{links_of, marks_of, add_own}

module _ {L : Type 0} where
  -- how many links were put with it
  abbrev pub links_put : Hand L → ℕ
  links_put v = length (links_of v.put)

  -- how many links were taken with it, and with the passes that were joined into it
  abbrev pub links_taken : Hand L → ℕ
  links_taken v = sum_by (λ js. length (links_of js)) v.taken

  -- how many closing marks were taken, in the same way
  abbrev pub marks_taken : Hand L → ℕ
  marks_taken v = sum_by marks_of v.taken

  -- how many passes are in it: itself, and those that were joined into it
  abbrev pub passes_in : Hand L → ℕ
  passes_in v = length v.taken

  -- the queue's own, after so many passes were made
  abbrev pub owner_hand : ℕ → Hand L
  owner_hand made = record { owner = true; made = made; first = false; put = []; taken = [] }

  abbrev pub IsOwner : Hand L → Type 0
  IsOwner v = v ≡ owner_hand v.made

  -- a pass that has put and taken nothing
  abbrev pub new_hand : Bool → Hand L
  new_hand first = record { owner = false; made = 0; first = first; put = []; taken = [] ∷ [] }

  -- one that was joined into another
  abbrev pub spent_hand : Hand L
  spent_hand = record { owner = false; made = 0; first = false; put = []; taken = [] }

  -- a pass was made of it
  abbrev pub makes : Hand L → Hand L
  makes v = record v { made = v.made + 1 }

  -- a job was put with it
  abbrev pub puts : Hand L → Option (ℕ × L) → Hand L
  puts v x = record v { put = v.put ++ x ∷ [] }

  -- closing marks were put with it
  abbrev pub closes : Hand L → ℕ → Hand L
  closes v takers = record v { put = v.put ++ replicate takers None }

  -- a job was taken with it
  abbrev pub takes : Hand L → Option (ℕ × L) → Hand L
  takes v x = record v { taken = add_own x v.taken }

  -- both together
  abbrev pub joined : Hand L → Hand L → Hand L
  joined v w = record { owner = v.owner || w.owner; made = v.made + w.made; first = v.first || w.first; put = v.put ++ w.put; taken = v.taken ++ w.taken }
