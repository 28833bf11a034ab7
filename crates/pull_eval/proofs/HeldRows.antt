-- Beside a past the rows are those of the nodes that are held.
use Rattle.std.proofs.Common.{◌≡◌, Bool, List, [], ◌∷◌, map, refl, sym, ◌∙◌, ap}
use Rattle.gcx_model.specs.Tree.{Node}
use Rattle.gcx_model.specs.Held.{held, is_held}
use Rattle.gcx_model.specs.Past.{Past}
use Rattle.base_laws.proofs.Lists.{cons_head, cons_tail, nil_cons}
use Rattle.tree_laws.proofs.Lists.{In-filter, In-kept}
use Rattle.past_laws.proofs.RowFacts.{held_above}
use Rattle.buf_tree.specs.Shape.{Cell}
use Rattle.buf_tree.specs.View.{View}
use Rattle.buf_tree.specs.Stands.{Seen, seen, told, StandsFor}
use Rattle.cond_eval.specs.Asking.{Facts, facts, node_facts, RowsOf}

abbrev pub holds : Past → Node → Bool
holds past n = is_held past.plan past.tree past.acts n

-- what is seen of a row without its level and its roles
abbrev less_seen : Seen → Facts
less_seen s = record { serial = s.serial; parent = s.parent; kind = s.kind; is_open = s.is_open }

facts_seen : (past : Past) (cs : List Cell) (ns : List Node) → map seen cs ≡ map (told past) ns → map facts cs ≡ map (node_facts past.tree) ns
facts_seen past [] [] e = refl
facts_seen past [] (n ∷ ns) e = absurd (nil_cons (told past n) (map (told past) ns) e)
facts_seen past (c ∷ cs) [] e = absurd (nil_cons (seen c) (map seen cs) (sym e))
facts_seen past (c ∷ cs) (n ∷ ns) e =
    let first : facts c ≡ node_facts past.tree n = ap less_seen (cons_head _ _ _ _ e) in
    let rest = facts_seen past cs ns (cons_tail _ _ _ _ e) in
    ap (λ z. z ∷ map facts cs) first ∙ ap (λ z. node_facts past.tree n ∷ z) rest

pub held_rows : (v : View) (past : Past) → StandsFor v past → RowsOf v.rows past.tree (holds past)
held_rows v past s = record {
  grown = s.is_past.grown;
  rows_are = facts_seen past v.rows (held past.plan past.tree past.acts) s.rows;
  up = λ n m i k j. (In-filter (holds past) m past.tree.nodes (held_above past s.is_past n m (In-kept (holds past) n past.tree.nodes i k) j)).1;
}
