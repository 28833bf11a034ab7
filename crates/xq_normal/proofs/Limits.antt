-- Which limit a core passes.
use Rattle.std.proofs.Common.{◌≡◌, ℕ, ◌+◌, ◌<◌, ◌≤◌, Bool, cond, ltb, List, length, Option, Some, None, ◌∙◌, ap, arith}
use Rattle.std.proofs.lemmas.Bool.{lt-ltb, le-ltb}
use Rattle.gcx_model.specs.declared.fault.QueryFault.{QueryFault}
use Rattle.gcx_model.specs.declared.fault.QueryFault.TheVariants.{Utf8, Lex, Syntax, UnknownVar, TagMismatch, DescendantNotLast, IntegerWide, TooLarge, Memory}
use Rattle.gcx_model.specs.declared.fault.What.TheVariants.{Loops, Steps, Conditions}
use Rattle.gcx_model.specs.Core.{BodyTree}
use Rattle.gcx_model.specs.Query.{ExprTree, exprs_of}
use Rattle.gcx_model.specs.Normal.{all_loops, no_names, normal}
use Rattle.placed_laws.proofs.Bridge.{length-count}
use Rattle.placed_laws.proofs.Moved.{vars-exprs}
use Rattle.xq_normal.specs.Shapes.{capped}
use Rattle.gcx_model.specs.Refusals.{UnlessMemory}
use Rattle.xq_normal.specs.Sums.{condition_bytes, condition_steps, conditions_refusal, loops_of, refusal}

abbrev by_bytes : Bool → Option QueryFault
by_bytes b = cond b (Some (TooLarge Conditions 8388608)) None

abbrev by_steps : Bool → Bool → Option QueryFault
by_steps b d = cond b (Some (TooLarge Steps 8000)) (by_bytes d)

pub steps_refused : (d : BodyTree) (n : ℕ) → n ≡ capped (0 + condition_steps d) → 8000 < n → conditions_refusal d ≡ Some (TooLarge Steps 8000)
steps_refused d n e h = ap (λ b. by_steps b (ltb 8388608 (condition_bytes d))) (lt-ltb 8000 (condition_steps d) (omega arith))

pub bytes_refused : (d : BodyTree) (n m : ℕ) → n ≡ capped (0 + condition_steps d) → n ≤ 8000 → m ≡ capped (0 + condition_bytes d) → 8388608 < m → conditions_refusal d ≡ Some (TooLarge Conditions 8388608)
bytes_refused d n m e h f k =
    ap (λ b. by_steps b (ltb 8388608 (condition_bytes d))) (le-ltb 8000 (condition_steps d) (omega arith))
    ∙ ap by_bytes (lt-ltb 8388608 (condition_bytes d) (omega arith))

pub none_refused : (d : BodyTree) (n m : ℕ) → n ≡ capped (0 + condition_steps d) → n ≤ 8000 → m ≡ capped (0 + condition_bytes d) → m ≤ 8388608 → conditions_refusal d ≡ None
none_refused d n m e h f k =
    ap (λ b. by_steps b (ltb 8388608 (condition_bytes d))) (le-ltb 8000 (condition_steps d) (omega arith))
    ∙ ap by_bytes (le-ltb 8388608 (condition_bytes d) (omega arith))

loops_are : (q : List ExprTree) → loops_of (normal q) ≡ all_loops (exprs_of q)
loops_are q = ap length (vars-exprs (exprs_of q) no_names 1) ∙ length-count 1 (all_loops (exprs_of q))

pub loops_refused : (q : List ExprTree) (n : ℕ) → n ≡ capped (all_loops (exprs_of q)) → 500 < n → refusal (normal q) ≡ Some (TooLarge Loops 500)
loops_refused q n e h = ap (λ b. cond b (Some (TooLarge Loops 500)) (conditions_refusal (normal q))) (lt-ltb 500 (loops_of (normal q)) (let l = loops_are q in omega arith))

-- with few loops the conditions decide
pub refused_by_conditions : (q : List ExprTree) (n : ℕ) → n ≡ capped (all_loops (exprs_of q)) → n ≤ 500 → refusal (normal q) ≡ conditions_refusal (normal q)
refused_by_conditions q n e h = ap (λ b. cond b (Some (TooLarge Loops 500)) (conditions_refusal (normal q))) (le-ltb 500 (loops_of (normal q)) (let l = loops_are q in omega arith))

pub unless_weaker : (P Q : QueryFault → Type 0) → ((f : QueryFault) → P f → Q f) → (f : QueryFault) → UnlessMemory P f → UnlessMemory Q f
unless_weaker P Q h Memory p = tt
unless_weaker P Q h (Utf8 at) p = h (Utf8 at) p
unless_weaker P Q h (Lex at) p = h (Lex at) p
unless_weaker P Q h (Syntax at) p = h (Syntax at) p
unless_weaker P Q h (UnknownVar at) p = h (UnknownVar at) p
unless_weaker P Q h (TagMismatch at) p = h (TagMismatch at) p
unless_weaker P Q h (DescendantNotLast at) p = h (DescendantNotLast at) p
unless_weaker P Q h (IntegerWide at) p = h (IntegerWide at) p
unless_weaker P Q h (TooLarge what limit) p = h (TooLarge what limit) p
