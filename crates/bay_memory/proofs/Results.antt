-- What holds of a result, where it is known which.
use Rattle.std.proofs.Common.{Bool, true, false, ◌≡◌, Result, Ok, Err, refl}
use Rattle.std.specs.Prelude.{not}
use Rattle.std.specs.Result.{is_ok, is_err, IsErr, OnOk, OnErr}

pub on_ok : {T E P : Type 0} (r : Result T E) → P → OnOk r P
on_ok (Ok x) p = p
on_ok (Err e) p = tt

pub of_ok : {T E P : Type 0} (r : Result T E) → is_err r ≡ false → OnOk r P → P
of_ok (Ok x) answered p = p
of_ok (Err e) answered p = cc

pub of_err : {T E P : Type 0} (r : Result T E) → is_err r ≡ true → OnErr r P → P
of_err (Ok x) failed p = cc
of_err (Err e) failed p = p

pub is_ok_not : {T E : Type 0} (r : Result T E) (b : Bool) → is_err r ≡ b → is_ok r ≡ not b
is_ok_not (Ok x) true is = cc
is_ok_not (Ok x) false is = refl
is_ok_not (Err e) true is = refl
is_ok_not (Err e) false is = cc

pub ok_fails : (T E : Type 0) (x : T) → IsErr {T = T} {E = E} (Ok x) → ⊥
ok_fails T E x is = cc
