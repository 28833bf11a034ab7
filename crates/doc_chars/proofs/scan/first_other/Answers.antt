use Rattle.std.proofs.Common.{ap, ◌+◌, subst, length, List, ℕ, Option, None, Some, arith}
use Rattle.std.specs.Prelude.{MatchOption}
use Rattle.std.specs.Str.{IsUtf8}
use Rattle.doc_chars.specs.Blocks.{HasNoOther, IsFirstOther}
use Rattle.doc_chars.specs.Scan.{AreChars, IsOther}
use Rattle.doc_chars.proofs.Blocks.{none_other, first_is, no_more}
use Rattle.doc_chars.proofs.scan.first_other.Goals as goal

pub returns-in-Some : goal.returns-in-Some
returns-in-Some c =
    let bytes = c.as_bytes-bytes.ensures.value in
    let inv = subst (λ (l : List ℕ). HasNoOther 0 c.loop-at.at l) bytes c.loop-at.invariant.1 in
    let here = subst (λ (l : List ℕ). IsFirstOther c.loop-at.at (c.loop-at.at + 64) c.in-Some.found l) bytes c.in-Some.ensures in
    first_is c.args.text.now c.loop-at.at (c.loop-at.at + 64) c.in-Some.found c.utf8.text (omega (arith, ap length bytes)) inv here

pub loop-at-preserved : goal.loop-at-preserved
loop-at-preserved c = (omega arith, no_more c.loop-at.at (c.loop-at.at + 64) c.as_bytes-bytes.result.now c.loop-at.invariant.1 c.in-None.ensures)

pub returns : goal.returns
returns c =
    let bytes = c.as_bytes-bytes.ensures.value in
    let at = c.loop-at.at in
    let text = c.args.text.now in
    let inv = subst (λ (l : List ℕ). HasNoOther 0 at l) bytes c.loop-at.invariant.1 in
    let last = subst (λ (l : List ℕ). MatchOption c.other_between.result (HasNoOther at (length l) l) (λ k. IsFirstOther at (length l) k l)) bytes c.other_between.ensures in
    by text at c.utf8.text inv c.other_between.result last
  where
    by : (text : List ℕ) (at : ℕ) → IsUtf8 text → HasNoOther 0 at text → (o : Option ℕ) → MatchOption o (HasNoOther at (length text) text) (λ k. IsFirstOther at (length text) k text) → MatchOption o (AreChars text) (IsOther text)
    by text at u inv None h = none_other text u (no_more at (length text) text inv h)
    by text at u inv (Some k) h = first_is text at (length text) k u (omega arith) inv h
