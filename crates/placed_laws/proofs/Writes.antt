-- The plan writes what its core writes.
use Rattle.std.proofs.Common.{◌≡◌, ℕ, Bool, true, false, List, [], ◌∷◌, ◌++◌, refl, sym, ◌∙◌, ap, subst}
use Rattle.std.specs.List.{filter}
use Rattle.std.proofs.lemmas.List.Elements.{filter-append}
use Rattle.gcx_model.specs.Tree.{Node, serial_of, Tree, is_closed}
use Rattle.gcx_model.specs.Paths.{matches}
use Rattle.gcx_model.specs.Core.{Write, Copy, For, If, SignOff, BodyTree, Nil, Then, OffTree}
use Rattle.gcx_model.specs.Truth.{Env, bind_var}
use Rattle.gcx_model.specs.Run.{env0, Action, Wrote, Offed, Out, idle, loop, seq, seq_if, run_item, run}
use Rattle.gcx_model.specs.Placed.{add_offs, offs_body, place, at_end, offs_of}
use Rattle.tree_laws.proofs.Reading.{reading}

abbrev pub is_write : Action → Bool
is_write (Wrote b) = true
is_write (Offed o n) = false

-- the same Write actions in order, and the one is done where the other is
abbrev pub Alike : Out → Out → Type 0
Alike a b = (filter is_write a.acts ≡ filter is_write b.acts) × (a.done ≡ b.done)

alike_seq : (a a' b b' : Out) → Alike a a' → Alike b b' → Alike (seq a b) (seq a' b')
alike_seq a a' b b' h k = subst (λ (c : Bool). Alike (seq a b) (seq_if c a' b')) h.1 (go a.done)
  where
    go : (c : Bool) → Alike (seq_if c a b) (seq_if c a' b')
    go true = (filter-append is_write a.acts b.acts ∙ (ap (λ z. z ++ filter is_write b.acts) h.0 ∙ (ap (λ z. filter is_write a'.acts ++ z) k.0 ∙ sym (filter-append is_write a'.acts b'.acts))), k.1)
    go false = h

alike_loop : (f g : Node → Out) (ns : List Node) (over : Bool) → ((n : Node) → Alike (f n) (g n)) → Alike (loop f ns over) (loop g ns over)
alike_loop f g [] over h = (refl, refl)
alike_loop f g (n ∷ ns) over h = alike_seq (f n) (g n) (loop f ns over) (loop g ns over) (h n) (alike_loop f g ns over h)

module _ (P : Tree) (ends : ℕ → List OffTree) where
  alike_offs : (os : List OffTree) (env : Env) → Alike (run (offs_body os) env P) (idle true)
  alike_offs [] env = (refl, refl)
  alike_offs (o ∷ os) env = alike_offs os env

  alike : (d : BodyTree) (os : List OffTree) (env : Env) → Alike (run (add_offs (place ends d) os) env P) (run d env P)
  alike Nil os env = alike_offs os env
  alike (Then (Write s) d) os env = alike_seq (run_item (Write s) env P) (run_item (Write s) env P) (run (add_offs (place ends d) os) env P) (run d env P) (refl, refl) (alike d os env)
  alike (Then (Copy x) d) os env = alike_seq (run_item (Copy x) env P) (run_item (Copy x) env P) (run (add_offs (place ends d) os) env P) (run d env P) (refl, refl) (alike d os env)
  alike (Then (SignOff o) d) os env = alike_seq (run_item (SignOff o) env P) (run_item (SignOff o) env P) (run (add_offs (place ends d) os) env P) (run d env P) (refl, refl) (alike d os env)
  alike (Then (If c a b) d) os env = alike_seq (run_item (If c a b) env P) (run_item (If c a b) env P) (run (add_offs (place ends d) os) env P) (run d env P) (refl, refl) (alike d os env)
  alike (Then (For x y s e) d) os env =
      alike_seq (run_item (For x y s (add_offs (place ends e) (ends x))) env P) (run_item (For x y s e) env P) (run (add_offs (place ends d) os) env P) (run d env P)
      (alike_loop (λ n. run (add_offs (place ends e) (ends x)) (bind_var env x n) P) (λ n. run e (bind_var env x n) P) (matches P (serial_of (env y)) (s ∷ [])) (is_closed P (env y)) (λ n. alike e (ends x) (bind_var env x n)))
      (alike d os env)

-- The Write actions of the plan's run are, in order, those of the core's, and the one is done exactly where the other is.
pub written : (core : BodyTree) (P : Tree) → Alike (run (reading core).body env0 P) (run core env0 P)
written core P = alike P (at_end (offs_of core)) core (at_end (offs_of core) 0) env0
