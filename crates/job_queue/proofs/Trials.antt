-- What callers of the queue go by.
use Rattle.std.proofs.Common.{◌≡◌, ℕ, ◌+◌, List, [], ◌∷◌, ◌++◌, Option, Some, None, refl, ap, ◌∙◌}
use Rattle.job_queue.specs.Lists.{marks_of}
use Rattle.job_queue.specs.Hands.{passes_in, takes, puts}
use Rattle.job_queue.specs.declared.hand.Hand.{Hand}
use Rattle.job_queue.proofs.Lists.{length-own}

module _ {X : Type 0} where
  -- a link more is no mark
  pub marks_of-link : (js : List (Option X)) (x : X) → marks_of (js ++ Some x ∷ []) ≡ marks_of js
  marks_of-link [] x = refl
  marks_of-link (Some y ∷ js) x = marks_of-link js x
  marks_of-link (None ∷ js) x = ap (λ n. n + 1) (marks_of-link js x)

module _ {L : Type 0} where
  pub link_put : (v w : Hand L) (x : ℕ × L) → w ≡ puts v (Some x) → marks_of v.put ≡ 0 → marks_of w.put ≡ 0
  link_put v w x e p = ap (λ (u : Hand L). marks_of u.put) e ∙ marks_of-link v.put x ∙ p

  pub passes_stay : (v w : Hand L) (x : Option (ℕ × L)) → w ≡ takes v x → passes_in w ≡ passes_in v
  passes_stay v w x e = ap (λ (u : Hand L). passes_in u) e ∙ length-own v.taken x
