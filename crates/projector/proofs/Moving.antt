-- A matcher stands for each list of actions in which the same statements are signed at the open nodes.
use Rattle.std.proofs.Common.{◌≡◌, false, not, List, sym, ◌∙◌, subst, Option}
use Rattle.std.specs.List.{filter}
use Rattle.std.proofs.lemmas.Bool.{and_parts, and_from, false≢true}
use Rattle.gcx_model.specs.Tree.{Node, serial_of, above, Tree, TreeToken, grow, is_open_at}
use Rattle.gcx_model.specs.Members.{In}
use Rattle.gcx_model.specs.Core.{OffTree}
use Rattle.gcx_model.specs.Run.{Action, Offed}
use Rattle.gcx_model.specs.Placed.{is_own}
use Rattle.gcx_model.specs.Held.{signed}
use Rattle.gcx_model.specs.Past.{Past, IsPast, is_ahead, open_from, open_nodes}
use Rattle.base_laws.proofs.Bools.{same_bools}
use Rattle.tree_laws.proofs.Lists.{In-filter, In-kept}
use Rattle.past_laws.proofs.Ahead.{ahead_before, open_is}
use Rattle.tree_laws.proofs.OffsSigned.{signed_is_off}
use Rattle.matcher.specs.Matcher.{MatcherAt, IsSign}
use Rattle.matcher.specs.View.{MatcherView}
use Rattle.matcher.specs.declared.signs.Sign.{Sign}

-- the past with these actions
abbrev pub with_acts : List Action → Past → Past
with_acts A past = record { plan = past.plan; tree = past.tree; acts = A; fed = 0 }

abbrev pub SameSigned : Tree → List Action → List Action → Type 0
SameSigned P A B = (o : OffTree) (n : Node) → In n (open_nodes P) → signed A o n ≡ signed B o n

pub moved : (m : MatcherView) (past : Past) (A : List Action) → MatcherAt m past false → IsPast (with_acts A past) → SameSigned past.tree past.acts A → MatcherAt m (with_acts A past) false
moved m past A h is same = record {
  is_past = is;
  tree = h.tree;
  flag = h.flag;
  here = h.here;
  innermost = h.innermost;
  some = h.some;
  levels = h.levels;
  frames = h.frames;
  idle = h.idle;
  over = h.over;
  signs = λ s. (λ i. go s ((h.signs s).0 i), λ q. (h.signs s).1 (back s q));
  marked = h.marked;
  turn = h.turn;
  fresh = λ e. absurd (false≢true e);
}
  where
    opened : (n : Node) → In n (above h.here) → In n (open_nodes past.tree)
    opened n i = subst (λ (o : Option Node). In n (open_from o)) (sym h.innermost) i

    go : (s : Sign) → IsSign past h.here s → IsSign (with_acts A past) h.here s
    go s q = record { off = q.off; of = q.of; role = q.role; steps = q.steps; node = q.node; among = q.among; at = q.at; is = sym (same q.off q.node (opened q.node q.among)) ∙ q.is }

    back : (s : Sign) → IsSign (with_acts A past) h.here s → IsSign past h.here s
    back s q = record { off = q.off; of = q.of; role = q.role; steps = q.steps; node = q.node; among = q.among; at = q.at; is = same q.off q.node (opened q.node q.among) ∙ q.is }

-- At a node that is open behind a token the same is signed in advance before it.
pub signed_behind : (past : Past) → IsPast past → (t : TreeToken) → SameSigned (grow t past.tree) (filter (is_ahead past.tree) past.acts) (filter (is_ahead (grow t past.tree)) past.acts)
signed_behind past is t o n i = same_bools _ _
    (λ h. let j = In-filter (is_ahead past.tree) (Offed o (serial_of n)) past.acts ((signed_is_off _ o n).0 h) in
    (signed_is_off _ o n).1 (In-kept (is_ahead (grow t past.tree)) (Offed o (serial_of n)) past.acts j.0
    (and_from _ _ (open_is (grow t past.tree).at n i) (and_parts (is_open_at past.tree.at (serial_of n)) (not (is_own o)) j.1).1)))
    (λ h. let j = In-filter (is_ahead (grow t past.tree)) (Offed o (serial_of n)) past.acts ((signed_is_off _ o n).0 h) in
    (signed_is_off _ o n).1 (In-kept (is_ahead past.tree) (Offed o (serial_of n)) past.acts j.0 (ahead_before past is t (Offed o (serial_of n)) j.0 j.1)))
