-- A file of a shelf that is opened and read as a source.
use Rattle.std.proofs.Common.{◌≡◌, ℕ, ◌≤◌, List, length, slice_get, Option, Some, refl, sym, ap, subst, ◌∙◌, arith}
use Rattle.gcx_io.specs.Calls.{GivesHandle}
use Rattle.gcx_io.specs.Opened.{KeepsOthers, KeepsShelf as KeepsOpened}
use Rattle.gcx_io.specs.Shelf.{Names, content_of}
use Rattle.gcx_io.specs.Views.{HandleView, Miss, ShelfView, SourceView, calls_at}
use Rattle.run_words.specs.Reading.{SourceGave}
use Rattle.run_words.specs.Stops.{Stop}
use Rattle.gcx_cmd.proofs.DocRead.{doc_keeps, doc_opens, doc_reads}
use Rattle.gcx_cmd.specs.Reads.{KeepsShelf, Opens, Reads}

-- One file was opened, and what its source gave was read of it.
pub record FileRead (name : List ℕ) (a b : ShelfView) (s t : SourceView) : Type 0 where
  pub opens : Opens 1 a b
  pub keeps : a.faults ≤ b.faults → KeepsShelf a b
  pub reads : (pieces : List (List ℕ)) (stop : Stop) → SourceGave s t pieces stop → Reads name (length a.given) a b pieces stop

-- `Z` is a shelf with its members and laws.
module _ {Z : Type 0} (names : Z → Names) (given : Z → List HandleView) (refused : Z → List Miss) (faults writes : Z → ℕ) (seen : Z → ShelfView) (handles : Z → ℕ)
    (left : Z → ℕ → Option (List ℕ)) (named : Z → ℕ → Option (List ℕ))
    (sees : (s : Z) → seen s ≡ record { names = names s; given = given s; refused = refused s; faults = faults s; write_faults = writes s })
    (counts : (s : Z) → length (given s) ≡ handles s)
    (lefts : (s : Z) (k : ℕ) (v : HandleView) → slice_get (given s) k ≡ Some v → left s k ≡ v.left) where
  given_is : (s : Z) → (seen s).given ≡ given s
  given_is s = ap (λ (v : ShelfView). v.given) (sees s)

  names_is : (s : Z) → (seen s).names ≡ names s
  names_is s = ap (λ (v : ShelfView). v.names) (sees s)

  lefts_seen : (s : Z) (k : ℕ) (v : HandleView) → slice_get (seen s).given k ≡ Some v → left s k ≡ v.left
  lefts_seen s k v at = lefts s k v (ap (λ (l : List HandleView). slice_get l k) (sym (given_is s)) ∙ at)

  abbrev pub source : Z → ℕ → SourceView
  source s h = record { calls = calls_at (given s) h; left = left s h; faults = faults s }

  pub file_read : (name : List ℕ) (a : ShelfView) (z m n : Z) (h i j : ℕ) → GivesHandle name (content_of a.names name) a (seen z) h → (seen z).names ≡ a.names
      → m ≡ z → i ≡ h → KeepsOpened (names m) (names n) (handles m) (handles n) (left m) (left n) i j → KeepsOthers (named m) (named n) (seen m) (seen n) i
      → FileRead name a (seen n) (source m i) (source n j)
  file_read name a z m n h i j gives kept same is keeps others =
      let gives' : GivesHandle name (content_of a.names name) a (seen m) i =
      subst (λ (k : ℕ). GivesHandle name (content_of a.names name) a (seen m) k) (sym is) (subst (λ (y : Z). GivesHandle name (content_of a.names name) a (seen y) h) (sym same) gives) in
      let kept' : (seen m).names ≡ a.names = ap (λ (y : Z). (seen y).names) same ∙ kept in
      let on : (seen n).names ≡ (seen m).names = names_is n ∙ keeps.names ∙ sym (names_is m) in
      let count : length (seen n).given ≡ length (seen m).given = ap length (given_is n) ∙ counts n ∙ keeps.count ∙ sym (counts m) ∙ ap length (sym (given_is m)) in
      record {
        opens = doc_opens name a (seen m) (seen n) i (left m) (left n) (named m) (named n) gives' kept' others on count (lefts_seen m) (lefts_seen n);
        keeps = λ later. doc_keeps name a (seen m) (seen n) i (left m) (left n) (named m) (named n) gives' kept' others on count (lefts_seen m) (lefts_seen n) later;
        reads = λ pieces stop gave. doc_reads name a (seen m) (seen n) i (left m) (left n) (named m) (named n) gives' kept' others on count (lefts_seen m) (lefts_seen n)
            (source m i) (source n j) pieces stop (ap (λ (l : List HandleView). calls_at l i) (sym (given_is m)))
            (ap (λ (k : ℕ). calls_at (given n) k) keeps.handle ∙ ap (λ (l : List HandleView). calls_at l i) (sym (given_is n)))
            refl (ap (left n) keeps.handle) gave;
      }

  -- no fault is forgotten
  pub faults_seen : (x y : Z) → faults x ≤ faults y → (seen x).faults ≤ (seen y).faults
  faults_seen x y up = omega (arith, up, ap (λ (v : ShelfView). v.faults) (sees x), ap (λ (v : ShelfView). v.faults) (sees y))
