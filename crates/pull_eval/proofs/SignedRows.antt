-- What a statement that is carried out leaves of the rows: their places, and how many have a role.
use Rattle.std.proofs.Common.{◌≡◌, ℕ, suc, Bool, true, false, cond, List, [], ◌∷◌, length, map, refl, sym, ◌∙◌, ap}
use Rattle.std.specs.List.{filter}
use Rattle.std.specs.FinSet as set
use Rattle.std.proofs.lemmas.Bool.{true≢false, false≢true}
use Rattle.gcx_base.specs.declared.steps.Step.{Step}
use Rattle.gcx_model.specs.Tree.{Node, serial_of, Tree}
use Rattle.gcx_model.specs.Paths.{matches}
use Rattle.gcx_model.specs.Core.{BodyTree}
use Rattle.gcx_model.specs.Truth.{Env}
use Rattle.gcx_model.specs.Held.{held, live}
use Rattle.gcx_model.specs.Past.{Past, IsPast}
use Rattle.gcx_model.specs.Points.{Frame, later}
use Rattle.buf_tree.specs.Shape.{Cell}
use Rattle.buf_tree.specs.Calls.{role_count}
use Rattle.buf_tree.specs.Stands.{Seen, seen, told, StandsFor}
use Rattle.buf_tree.specs.View.{View}
use Rattle.buf_tree.proofs.Signing.{has_live}
use Rattle.run_laws.specs.Sums.{live_at}
use Rattle.cond_eval.specs.Asking.{PlacedAt, IsBound}
use Rattle.cond_eval.specs.Bindings.{Bindings}
use Rattle.pull_eval.specs.Position.{KnowsNext, IsRound, AreFrames, none, alone, in_round}
use Rattle.pull_eval.specs.Acting.{SamePlaces}
use Rattle.pull_eval.specs.declared.block.Next.{Next}
use Rattle.pull_eval.specs.declared.block.Next.TheVariants.{Unsought, Found, NoneUpTo}
use Rattle.pull_eval.specs.declared.block.Round.{Round as CodeRound}
use Rattle.pull_eval.specs.declared.block.Block.{Block}

-- ---- fewer rows at the same places

module _ (before now : List Cell) (same : SamePlaces before now) where
  pub placed_fewer : (s p : ℕ) → PlacedAt before s p → PlacedAt now s p
  placed_fewer s p h c i e = let d = same c i in sym d.2 ∙ h d.0 d.1 (d.3 ∙ e)

  pub bound_fewer : (bound : Bindings) (x : ℕ) (n : Node) → IsBound before bound x n → IsBound now bound x n
  bound_fewer bound x n h = record { place = h.place; pair = h.pair; at = placed_fewer (serial_of n) h.place h.at }

  next_fewer : (ms : List Node) (next : Next) → KnowsNext before ms next → KnowsNext now ms next
  next_fewer ms Unsought h = tt
  next_fewer ms (Found p) h = (h.0, h.1, h.2, placed_fewer (serial_of h.0) p.0 h.3)
  next_fewer ms (NoneUpTo u) h = h

  round_fewer : (P : Tree) (r : CodeRound) (x y : ℕ) (s : Step) (e : BodyTree) (env : Env) (n : Node) → IsRound before P r x y s e env n → IsRound now P r x y s e env n
  round_fewer P r x y s e env n h = record {
    var = h.var;
    step = h.step;
    body = h.body;
    context = placed_fewer (serial_of (env y)) r.context.0 h.context;
    present = placed_fewer (serial_of n) r.present.0 h.present;
    next = next_fewer (later n (matches P (serial_of (env y)) (s ∷ []))) r.next h.next;
    upto = h.upto;
  }

  pub frames_fewer : (P : Tree) (bs : List Block) (fs : List Frame) → AreFrames before P bs fs → AreFrames now P bs fs
  frames_fewer P bs fs none = none
  frames_fewer P bs fs (alone {bs = others} {fs = below} free seen rest) = alone free seen (frames_fewer P others below rest)
  frames_fewer P bs fs (in_round {bs = others} {fs = below} r {x} {y} {s} {e} {env} {n} one round looked seen rest) =
      in_round r one (round_fewer P r x y s e env n round) looked seen (frames_fewer P others below rest)

-- ---- how many rows have a role

counted : (past : Past) (r : ℕ) (xs : List Cell) (ns : List Node) → IsPast past → map seen xs ≡ map (told past) ns → role_count r xs ≡ length (filter (λ n. live past.plan past.tree past.acts n r) ns)
counted past r [] [] is e = refl
counted past r [] (n ∷ ns) is e = absurd (cc)
counted past r (x ∷ xs) [] is e = absurd (cc)
counted past r (x ∷ xs) (n ∷ ns) is e = go (set.contains x.row.roles r) (live past.plan past.tree past.acts n r) same (counted past r xs ns is more)
  where
    first : seen x ≡ told past n
    first = cc

    more : map seen xs ≡ map (told past) ns
    more = cc

    same : set.contains x.row.roles r ≡ live past.plan past.tree past.acts n r
    same = ap (λ (z : Seen). set.contains z.roles r) first ∙ has_live past is n r

    go : (a b : Bool) → a ≡ b → role_count r xs ≡ length (filter (λ n. live past.plan past.tree past.acts n r) ns)
        → length (cond a (x ∷ filter (λ c. set.contains c.row.roles r) xs) (filter (λ c. set.contains c.row.roles r) xs)) ≡ length (cond b (n ∷ filter (λ n. live past.plan past.tree past.acts n r) ns) (filter (λ n. live past.plan past.tree past.acts n r) ns))
    go true true f h = ap suc h
    go true false f h = absurd (true≢false f)
    go false true f h = absurd (false≢true f)
    go false false f h = h

pub roles_counted : (v : View) (past : Past) (r : ℕ) → StandsFor v past → role_count r v.rows ≡ length (live_at past.plan past.tree past.acts r)
roles_counted v past r s = counted past r v.rows (held past.plan past.tree past.acts) s.is_past s.rows
