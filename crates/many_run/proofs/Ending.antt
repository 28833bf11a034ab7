-- At the end of a document no part holds a node.
use Rattle.std.proofs.Common.{◌≡◌, ◌∙◌, ℕ, Bool, true, List, [], ◌∷◌, ◌++◌, map, refl, sym, ap, subst, None, Option}
use Rattle.std.specs.Prelude.{Result, ⊤}
use Rattle.gcx_base.specs.declared.limits.Limits.{Limits}
use Rattle.gcx_model.specs.Document.{Nodes, tokens, tree_of}
use Rattle.gcx_model.specs.Held.{held}
use Rattle.gcx_model.specs.Past.{Past}
use Rattle.gcx_model.specs.PlanView.{plan_tree}
use Rattle.gcx_model.specs.Points.{actions, so_far}
use Rattle.gcx_model.specs.Run.{Action}
use Rattle.gcx_model.specs.Seen.{seen_tree}
use Rattle.gcx_model.specs.Tree.{Tree, TreeToken as Said, End}
use Rattle.tree_laws.specs.Growth.{AllClosed}
use Rattle.tree_laws.proofs.Documents.{documents_grow}
use Rattle.placed_laws.proofs.Balances.{empty_law}
use Rattle.gcx_model.specs.declared.fault.DocFault.{DocFault}
use Rattle.doc_reader.specs.Standing.{Accepted, Answers, IsFault, ReaderView, Stands, Token, answer_by, said_of, waiting}
use Rattle.buf_tree.specs.Shape.{Cell}
use Rattle.buf_tree.specs.Stands.{seen, told}
use Rattle.run_part.specs.Actors.{all_of, bytes_at, past_at}
use Rattle.engine.specs.Engine.{GrewBy, OnAnswer}
use Rattle.engine.proofs.Courses.{answer_of_fault, grew_none, on_answer, settled_by}
use Rattle.engine.proofs.Ending.{document_closed, document_seen}
use Rattle.engine.proofs.Waiting.{on_none}
use Rattle.engine.proofs.Whole.{TokensOf, all_closed, tokens_whole}
use Rattle.run_part.proofs.Writing.{all_is}
use Rattle.many_run.specs.Many.{ManyKept, ManyLost, ManyStand, NoneHeld, PartGrew}
use Rattle.run_part.specs.Part.{PartStands}
use Rattle.many_run.specs.View.{ManyView}
use Rattle.run_part.specs.View.{PartView}
use Rattle.many_run.proofs.Walking.{each_same}

no_rows : (past : Past) (xs : List Cell) → map seen xs ≡ map (told past) [] → xs ≡ []
no_rows past [] e = refl
no_rows past (x ∷ xs) e = absurd (cc)

module _ {C : Type 0} (stands : C → Tree → Type 0) (ts : List Said) (doc : Nodes) (is : ts ≡ tokens doc ++ End ∷ []) (closed : AllClosed (tree_of doc)) where
  abbrev P : Tree
  P = seen_tree ts

  closed_here : AllClosed P
  closed_here = subst (λ (T : Tree). AllClosed T) (sym (document_closed ts doc is)) closed

  nothing_held : (p : PartView C) → PartStands stands 1 ts p → p.actors.buffer.rows ≡ []
  nothing_held p s =
      let a = s.1.actors in
      let h = a.beside.buffer.is_past in
      let plan = plan_tree p.plan in
      let none : held plan P (actions plan P) ≡ [] = empty_law h.core h.good plan h.placed P h.grown closed_here in
      let none' : held plan P (so_far plan P (all_of plan P)) ≡ [] = ap (λ (A : List Action). held plan P A) (all_is plan P) ∙ none in
      no_rows (past_at plan P (all_of plan P) a.fed) p.actors.buffer.rows (a.beside.buffer.rows ∙ ap (map (told (past_at plan P (all_of plan P) a.fed))) none')

module _ {C : Type 0} (stands : C → Tree → Type 0) (lim : Limits) (d : ManyView C) (b : List ℕ) (s : ManyStand stands lim d b true) (r : ReaderView) (given : List Token) (h : Stands r lim b true given) (fresh : r.refused ≡ None)
    (a : Accepted b (given ++ waiting r)) where
  pub end_empty : NoneHeld d
  end_empty i p at =
      nothing_held stands (map said_of s.given) a.document (document_seen r lim b given h fresh a (map said_of s.given) s.seen) (documents_grow a.document a.is_document).1 p (s.parts i p at)

-- The input came to its end before: a second call of `finish` finds the same, and nothing is held.
module _ {C : Type 0} (stands : C → Tree → Type 0) (lim : Limits) (m : ManyView C) (b : List ℕ) (was : Bool) (s : ManyStand stands lim m b was) (over : m.ended ≡ true) where
  ended_is : was ≡ true
  ended_is = sym s.closing ∙ over

  stands_over : ManyStand stands lim m b true
  stands_over = subst (λ (z : Bool). ManyStand stands lim m b z) ended_is s

  pub over_exact : (r : Result ⊤ DocFault) → r ≡ answer_by m.refused → Answers r lim b true
  over_exact r is = answer_of_fault m.refused r lim b true is stands_over.fault

  module _ (fresh : m.refused ≡ None) where
    none_more : (p : PartView C) → PartGrew (λ plan. GrewBy plan lim b was b true) p p
    none_more p =
        let plan = plan_tree p.plan in
        let w = bytes_at plan (seen_tree (map said_of s.given)) (all_of plan (seen_tree (map said_of s.given))) in
        record {
          plan = refl;
          grew = subst (λ (z : Bool). GrewBy plan lim b was b z p.out p.out) ended_is (grew_none plan lim b was w p.out (settled_by plan lim b was (map said_of s.given) w s.seen refl));
        }

    pub over_ended : (r : Result ⊤ DocFault) → r ≡ answer_by m.refused → OnAnswer r (ManyLost lim m m b was b true) (ManyKept stands lim m m b was b true)
    over_ended r is =
        let kept : ManyKept stands lim m m b was b true = record { of = stands_over; grew = each_same m.parts (PartGrew (λ plan. GrewBy plan lim b was b true)) none_more } in
        on_answer m.refused r (ManyLost lim m m b was b true) (ManyKept stands lim m m b was b true) is
        (on_none m.refused (ManyLost lim m m b was b true) (ManyKept stands lim m m b was b true) fresh kept)

    document : TokensOf (map said_of stands_over.given)
    document = tokens_whole lim b (map said_of stands_over.given) (subst (λ (z : Option DocFault). IsFault z lim b true) fresh stands_over.fault) stands_over.seen

    pub over_empty : NoneHeld m
    over_empty i p at = nothing_held stands (map said_of stands_over.given) document.document document.are (all_closed document.document) p (stands_over.parts i p at)
