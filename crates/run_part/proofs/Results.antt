-- What holds of a result, by cases.
use Rattle.std.specs.Prelude.{Result, OnOk, OnErr}
use Rattle.std.specs.declared.result.Result.TheVariants.{Ok, Err}

pub ok_map : {T E A B : Type 0} (r : Result T E) → (A → B) → OnOk r A → OnOk r B
ok_map (Ok t) f h = f h
ok_map (Err e) f h = tt

pub err_map : {T E A B : Type 0} (r : Result T E) → (A → B) → OnErr r A → OnErr r B
err_map (Ok t) f h = tt
err_map (Err e) f h = f h

pub on_ok : {T E : Type 0} (r : Result T E) (X : Type 0) → X → OnOk r X
on_ok (Ok t) X x = x
on_ok (Err e) X x = tt
