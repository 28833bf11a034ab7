-- The reading of DOC's tree, and of its tokens.
use Rattle.std.proofs.Common.{◌≡◌, inr, ℕ, List, map, Ok, Err}
use Rattle.std.specs.Global.{Global}
use Rattle.std.specs.declared.collections.VecDeque.{VecDeque}
use Rattle.gcx_io.specs.Views.{ShelfView, SourceView}
use Rattle.gcx_io.specs.Writing.{joined}
use Rattle.gcx_model.specs.Tree.{Tree}
use Rattle.run_words.specs.Stops.{Stop, EndAnswered}
use Rattle.doc_reader.specs.Standing.{said_of, Token}
use Rattle.tree_read.specs.Document.{AreTokens, IsWhole, ReadsBy, ReadsDocument, ReadsTokens}
use Rattle.tree_read.specs.declared.reading.DocumentEnd.{DocumentEnd}
use Rattle.tree_read.specs.declared.reading.DocumentEnd.TheVariants as end
use Rattle.gcx_cmd.proofs.FileRead.{FileRead}
use Rattle.gcx_cmd.specs.DocumentDoes.{ReadsAll, ReadsDoes, ReadsTree, TokensDoes, TreeDoes}
use Rattle.gcx_cmd.specs.ReadEnd.{document_status}

module _ (d : List ℕ) (a b : ShelfView) (s t : SourceView) (f : FileRead d a b s t) where
  -- `Is` ties what is made to the bytes, and so `Says` holds of the pieces
  module _ {T : Type 0} (Is : List ℕ → T → Type 0) (Says : T → List (List ℕ) → Stop → Type 0)
      (says : (x : T) (pieces : List (List ℕ)) (stop : Stop) → stop ≡ EndAnswered → Is (joined pieces) x → Says x pieces stop) where
    reads_does : (x : T) → ReadsBy Is s t (Ok x) → ReadsDoes Says d (Ok x) a b
    reads_does x r = record {
      pieces = r.pieces;
      stop = r.stop;
      one = f.opens;
      doc = f.reads r.pieces r.stop r.gave;
      reads_on = r.reads_on;
      says = says x r.pieces r.stop r.finds.0 r.finds.1;
    }

    reads_stops : (e : DocumentEnd) → ReadsBy Is s t (Err e) → ReadsDoes Says d (Err (document_status e)) a b
    reads_stops (end.Refused g) r = record {
      pieces = r.pieces;
      stop = r.stop;
      one = f.opens;
      doc = f.reads r.pieces r.stop r.gave;
      reads_on = r.reads_on;
      says = record { calm = r.finds.0; fault = r.finds.1 };
    }
    reads_stops end.Fault r = inr (record {
      pieces = r.pieces;
      stop = r.stop;
      one = f.opens;
      doc = f.reads r.pieces r.stop r.gave;
      reads_on = r.reads_on;
      says = record { at_fault = r.finds.0; clean = r.finds.1 };
    })
    reads_stops end.Memory r = inr (record {
      pieces = r.pieces;
      stop = r.stop;
      one = f.opens;
      doc = f.reads r.pieces r.stop r.gave;
      reads_on = r.reads_on;
      says = r.finds;
    })

  is_tree : (tree : Tree) (pieces : List (List ℕ)) (stop : Stop) → stop ≡ EndAnswered → IsWhole (joined pieces) tree → ReadsTree tree pieces stop
  is_tree tree pieces stop at_end whole = record { at_end = at_end; whole = whole }

  pub tree_does : (tree : Tree) → ReadsDocument s t (Ok tree) → TreeDoes d (Ok tree) a b
  tree_does tree r = reads_does IsWhole ReadsTree is_tree tree r

  pub tree_stops : (e : DocumentEnd) → ReadsDocument s t (Err e) → TreeDoes d (Err (document_status e)) a b
  tree_stops e r = reads_stops IsWhole ReadsTree is_tree e r

  abbrev Spell : List ℕ → VecDeque Token Global → Type 0
  Spell bytes tokens = AreTokens bytes (map said_of tokens.items)

  abbrev Given : VecDeque Token Global → List (List ℕ) → Stop → Type 0
  Given tokens = ReadsAll (map said_of tokens.items)

  are_tokens : (tokens : VecDeque Token Global) (pieces : List (List ℕ)) (stop : Stop) → stop ≡ EndAnswered → Spell (joined pieces) tokens → Given tokens pieces stop
  are_tokens tokens pieces stop at_end are = record { at_end = at_end; are = are }

  pub tokens_does : (tokens : VecDeque Token Global) → ReadsTokens s t (Ok tokens) → TokensDoes d (Ok tokens) a b
  tokens_does tokens r = reads_does Spell Given are_tokens tokens r

  pub tokens_stop : (e : DocumentEnd) → ReadsTokens s t (Err e) → TokensDoes d (Err (document_status e)) a b
  tokens_stop e r = reads_stops Spell Given are_tokens e r
