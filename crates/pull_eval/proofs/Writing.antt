-- What a write leaves beside a past: a buffer stands for the past behind it as before.
use Rattle.std.proofs.Common.{◌≡◌, ℕ, suc, Bool, not, ◌&&◌, ◌||◌, List, [], ◌∷◌, ◌++◌, length, map, sym, ◌∙◌, ap, Some, None, Option}
use Rattle.std.specs.Prelude.{sum}
use Rattle.std.specs.List.{filter}
use Rattle.std.specs.Ordering.{nat_cmp}
use Rattle.std.specs.FinSet.{from_list}
use Rattle.std.proofs.Math.Bool.{or-false}
use Rattle.std.proofs.Math.Path.{fun_ext}
use Rattle.gcx_model.specs.Tree.{Node, serial_of, kind_of, within, Tree, is_open_at}
use Rattle.gcx_model.specs.Paths.{any, all, matches}
use Rattle.gcx_model.specs.Members.{count}
use Rattle.gcx_model.specs.Core.{OffTree, PlanTree}
use Rattle.gcx_model.specs.Run.{Action, Wrote}
use Rattle.gcx_model.specs.Held.{path_of, statement_of, given, is_off, signed, reaches, on_off, held, sum_taken}
use Rattle.gcx_model.specs.Growth.{level}
use Rattle.gcx_model.specs.Points.{acted}
use Rattle.gcx_model.specs.Past.{Past, past_acted, parent_serial}
use Rattle.move_laws.specs.Moves.{IsNext}
use Rattle.past_laws.proofs.Awaited.{waiting_law}
use Rattle.past_laws.proofs.PastForms.{past_acts}
use Rattle.placed_laws.proofs.Stays.{any-append}
use Rattle.spread_laws.specs.Tops.{roles_kept}
use Rattle.spread_laws.proofs.Acted.{kept_by_write}
use Rattle.buf_tree.specs.View.{View, capped}
use Rattle.buf_tree.specs.Spread.{SpreadView, kept_roles}
use Rattle.buf_tree.specs.Stands.{Seen, told_row, StandsFor}
use Rattle.pull_eval.specs.Position.{StandsAt}
use Rattle.pull_eval.specs.Acting.{Beside}
use Rattle.pull_eval.specs.declared.position.Position.{Position}

-- what is held, and what rows tell, by what is signed
abbrev Signs : Type 0
Signs = OffTree → Node → Bool

abbrev taken_by : PlanTree → Tree → Signs → Node → ℕ → Bool
taken_by plan P sg n r = given plan P n r && on_off (λ o. all (λ m. not (reaches P o m n) || sg o m) (matches P 0 (path_of plan o.base))) (statement_of plan r)

abbrev live_by : PlanTree → Tree → Signs → Node → ℕ → Bool
live_by plan P sg n r = given plan P n r && not (taken_by plan P sg n r)

abbrev held_by : PlanTree → Tree → Signs → List Node
held_by plan P sg = filter (λ n. is_open_at P.at (serial_of n) || any (λ m. within (serial_of n) m && any (live_by plan P sg m) (count 0 (length plan.roles))) P.nodes) P.nodes

abbrev told_by : PlanTree → Tree → Signs → Node → Seen
told_by plan P sg n = told_row (level n) (record {
  serial = serial_of n;
  parent = parent_serial n;
  kind = kind_of n;
  is_open = is_open_at P.at (serial_of n);
  roles = filter (live_by plan P sg n) (count 0 (length plan.roles));
  signed = filter (λ r. on_off (λ o. sg o n) (statement_of plan r)) (count 0 (length plan.roles));
})

abbrev sum_by : PlanTree → Tree → Signs → ℕ
sum_by plan P sg = sum (map (λ n. length (filter (taken_by plan P sg n) (count 0 (length plan.roles)))) P.nodes)

-- a write signs nothing
signed_wrote : (A : List Action) (b : List ℕ) → signed (A ++ Wrote b ∷ []) ≡ signed A
signed_wrote A b = fun_ext (λ o. fun_ext (λ m. any-append (is_off o (serial_of m)) A (Wrote b ∷ []) ∙ or-false (signed A o m)))

pub sum_wrote : (plan : PlanTree) (P : Tree) (A : List Action) (b : List ℕ) → sum_taken plan P (A ++ Wrote b ∷ []) ≡ sum_taken plan P A
sum_wrote plan P A b = ap (sum_by plan P) (signed_wrote A b)

-- nor does it change what is kept
kept_wrote : (s : Option SpreadView) (past : Past) (b : List ℕ)
    → map (λ (n : Node). from_list {R = nat_cmp} (kept_roles s past n)) (held past.plan past.tree past.acts)
    ≡ map (λ (n : Node). from_list {R = nat_cmp} (kept_roles s (past_acted (Wrote b) past) n)) (held past.plan past.tree (past.acts ++ Wrote b ∷ []))
kept_wrote None past b =
    ap (λ (sg : Signs). map (λ (n : Node). from_list {R = nat_cmp} (filter (live_by past.plan past.tree sg n) (count 0 (length past.plan.roles)))) (held_by past.plan past.tree sg)) (sym (signed_wrote past.acts b))
kept_wrote (Some s) past b =
    ap (λ (f : Node → List ℕ). map (λ (n : Node). from_list {R = nat_cmp} (f n)) (held past.plan past.tree past.acts)) (fun_ext (λ n. sym (kept_by_write past b n)))
    ∙ ap (λ (sg : Signs). map (λ (n : Node). from_list {R = nat_cmp} (roles_kept (past_acted (Wrote b) past) n)) (held_by past.plan past.tree sg)) (sym (signed_wrote past.acts b))

pub stands_wrote : (v : View) (past : Past) (b : List ℕ) → StandsFor v past → StandsFor v (past_acted (Wrote b) past)
stands_wrote v past b s = record {
  is_past = (past_acts past s.is_past).0 b;
  spread = s.spread;
  rows = s.rows ∙ ap (λ (sg : Signs). map (told_by past.plan past.tree sg) (held_by past.plan past.tree sg)) (sym (signed_wrote past.acts b));
  kept = s.kept ∙ kept_wrote v.spread past b;
  waiting = s.waiting ∙ sym ((waiting_law past s.is_past).1 b);
  nodes = s.nodes;
}

-- bytes were written, which was the next action
pub beside_wrote : (w m : Position) (v : View) (past : Past) (k : ℕ) (b : List ℕ) → Beside w v past k → IsNext past.plan past.tree k (Wrote b) → StandsAt past.plan m v.rows past.tree (suc k) → Beside m v (past_acted (Wrote b) past) (suc k)
beside_wrote w m v past k b s n p = record {
  state = acted s.state n.left;
  acts = ap (λ (A : List Action). A ++ Wrote b ∷ []) s.acts ∙ sym n.taken;
  buffer = stands_wrote v past b s.buffer;
  taken = s.taken ∙ ap capped (sym (sum_wrote past.plan past.tree past.acts b));
  position = p;
}

-- no action was taken
pub beside_still : (w m : Position) (v : View) (past : Past) (k : ℕ) → Beside w v past k → StandsAt past.plan m v.rows past.tree k → Beside m v past k
beside_still w m v past k s p = record { state = s.state; acts = s.acts; buffer = s.buffer; taken = s.taken; position = p }
