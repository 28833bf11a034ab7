-- What is settled of a whole document is its answer.
use Rattle.std.proofs.Common.{◌≡◌, ◌∙◌, ℕ, zero, suc, Bool, true, List, [], ◌∷◌, None, Some, ap, slice_get, subst, sym}
use Rattle.gcx_base.specs.Limits.{full_limits}
use Rattle.gcx_io.specs.Views.{ShelfView}
use Rattle.gcx_io.specs.Writing.{Takes, joined}
use Rattle.gcx_io.specs.declared.shelf.Handle.{Handle}
use Rattle.gcx_model.specs.Answer.{answer}
use Rattle.gcx_model.specs.Document.{Nodes, tree_of}
use Rattle.gcx_model.specs.Faults.{FaultIs}
use Rattle.gcx_model.specs.Normal.{known}
use Rattle.gcx_model.specs.Query.{ExprTree}
use Rattle.gcx_model.specs.Sound.{is_sound}
use Rattle.gcx_words.specs.declared.pairs.Pair.{Pair}
use Rattle.placed_laws.proofs.Meaning.{normal_law}
use Rattle.run_words.specs.Ends.{Completed}
use Rattle.tree_read.specs.Document.{BytesSpell}
use Rattle.many_run.specs.Files.{sink_at}
use Rattle.gcx_cmd.proofs.Documents.{one_document, one_spelled, seen_document}
use Rattle.gcx_cmd.specs.ManyDoes.{AcceptsQueries, RunsMany, TakeAnswers}
use Rattle.gcx_cmd.specs.World.{World}
use Rattle.gcx_cmd.specs.RunDoes.{Runs, WritesAnswer}
use Rattle.gcx_cmd.specs.Running.{Settles}
use Rattle.gcx_cmd.specs.declared.status.Status.TheVariants as status

pub answer_of : (q : List ExprTree) (bytes settled : List ℕ) (d : Nodes) → is_sound q ≡ true → FaultIs full_limits bytes true None → Settles q bytes true settled
    → BytesSpell bytes d → settled ≡ answer q d
answer_of q bytes settled d sound clean (ts, seen, is) spelled =
    let w = seen_document full_limits bytes ts clean seen in
    let same : d ≡ w.document = one_spelled bytes d w.document spelled w.spells in
    is ∙ ap (known q) (w.tree_is ∙ ap tree_of (sym same)) ∙ normal_law q sound d

-- `run` wrote it
pub run_answers : (tracing : Bool) (ahead : ℕ) (q d : List ℕ) (a b : World) (r : Runs tracing ahead q d status.Ok a b) → WritesAnswer r.x r.pieces a.out b.out
run_answers tracing ahead q d a b r =
    let w = one_document full_limits (joined r.pieces) r.ends.1 in
    record {
      doc = w.0;
      spells = w.1;
      wrote = subst (λ (l : List ℕ). Takes a.out b.out l)
          (answer_of r.x (joined r.pieces) r.ends.2.settled w.0 r.over.query.accepts.sound r.ends.1 r.ends.2.is w.1.spells) r.ends.2.wrote;
    }

-- each accepted query is sound
accepted_sound : (ps : List Pair) (xs : List (List ExprTree)) (a b : ShelfView) → AcceptsQueries ps a b xs → (i : ℕ) (x : List ExprTree) → slice_get xs i ≡ Some x → is_sound x ≡ true
accepted_sound [] [] a b h i x at = let no : ⊥ = cc in absurd no
accepted_sound [] (y ∷ xs) a b h i x at = absurd h
accepted_sound (p ∷ ps) [] a b h i x at = absurd h
accepted_sound (p ∷ ps) (y ∷ xs) a b (m, one, accepted, k, rest) zero x at = subst (λ (z : List ExprTree). is_sound z ≡ true) (one_query y x at) accepted.accepts.sound
  where
    one_query : (y x : List ExprTree) → Some y ≡ Some x → y ≡ x
    one_query y x at = cc
accepted_sound (p ∷ ps) (y ∷ xs) a b (m, one, accepted, k, rest) (suc i) x at = accepted_sound ps xs m b rest i x at

-- and each OUT of `many` took it
pub many_answers : (d : List ℕ) (ps : List Pair) (a b : ShelfView) (r : RunsMany d ps Completed a b) → TakeAnswers r.xs r.outs r.run.pieces r.begun b
many_answers d ps a b r =
    let clean = r.run.stops.1 in
    let w = one_document full_limits (joined r.run.pieces) clean in
    record {
      doc = w.0;
      spells = w.1;
      each = λ i o x is_o is_x.
          let ends = r.run.each i o is_o x is_x in
          subst (λ (l : List ℕ). Takes (sink_at o.0 r.begun) (sink_at o.0 b) l)
          (answer_of x (joined r.run.pieces) ends.2.settled w.0 (accepted_sound ps r.xs a r.accepted r.accepts i x is_x) clean ends.2.is w.1.spells) ends.2.wrote;
    }
