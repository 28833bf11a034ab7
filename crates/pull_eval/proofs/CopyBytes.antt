-- What a copy writes tells which action it was.
use Rattle.std.proofs.Common.{◌≡◌, ◌==◌, ◌<◌, ◌≤◌, ◌+◌, ◌-◌, ℕ, suc, Bool, true, false, cond, List, [], ◌∷◌, ◌++◌, length, Option, Some, None, refl, sym, ◌∙◌, ap, subst, inl, inr, ◌⊎◌, arith}
use Rattle.std.proofs.lemmas.Bool.{true≢false}
use Rattle.std.proofs.lemmas.List.{append-nil, length-append}
use Rattle.gcx_base.specs.declared.kind.Kind.TheVariants.{Document, Element, Text}
use Rattle.gcx_model.specs.Document.{is_blank}
use Rattle.gcx_model.specs.Tree.{Node, Under, kind_of, Tree, opening}
use Rattle.gcx_model.specs.Members.{In}
use Rattle.gcx_model.specs.Written.{start_tag, end_tag, escape, escaped}
use Rattle.gcx_model.specs.Run as run
use Rattle.gcx_model.specs.Growth.{Grow, opened, added, closed, ended, Leads, stays, more}
use Rattle.gcx_model.specs.Past.{Past, past_acted}
use Rattle.move_laws.specs.Moves.{IsNext}
use Rattle.tree_laws.proofs.Lists.{In-append}
use Rattle.buf_tree.specs.View.{View}
use Rattle.pull_eval.specs.Weight.{weight}
use Rattle.pull_eval.specs.Acting.{Beside, Moves}
use Rattle.pull_eval.specs.declared.machine.Acted.{Acted}
use Rattle.pull_eval.specs.declared.machine.Acted.TheVariants as outcomes
use Rattle.pull_eval.specs.declared.position.Position.{Position}

-- ---- texts aren't empty

-- the node is one of these or the new one
among : (n m : Node) (ns ms : List Node) → ms ≡ ns ++ m ∷ [] → In n ms → In n ns ⊎ (m ≡ n)
among n m ns ms e i = elim (In-append n ns (m ∷ []) (subst (λ (z : List Node). In n z) e i)) [ inl j ↦ inl j | inr j ↦ elim j [ inl f ↦ inr f | inr a ↦ absurd a ] ]

text_grown : (P Q : Tree) → Grow P Q → ((n : Node) (b : List ℕ) → In n P.nodes → kind_of n ≡ Text b → b ≡ [] → ⊥) → (n : Node) (b : List ℕ) → In n Q.nodes → kind_of n ≡ Text b → b ≡ [] → ⊥
text_grown P Q (opened p name a at r nodes now) h n b i e f = elim (among n (Under p (length P.nodes) (Element name)) P.nodes Q.nodes nodes i) [
  | inl j ↦ h n b j e f
  | inr g ↦ (let k : Element name ≡ Text b = ap kind_of g ∙ e in absurd (cc))
]
text_grown P Q (added p s k bytes at blank last nodes now) h n b i e f = elim (among n (Under (Under p s k) (length P.nodes) (Text bytes)) P.nodes Q.nodes nodes i) [
  | inl j ↦ h n b j e f
  | inr g ↦ (let t : Text bytes ≡ Text b = ap kind_of g ∙ e in let same : bytes ≡ [] = (let u : bytes ≡ b = cc in u ∙ f) in true≢false (sym (ap is_blank same) ∙ blank))
]
text_grown P Q (closed p s k at nodes now) h n b i e f = h n b (subst (λ (z : List Node). In n z) nodes i) e f
text_grown P Q (ended at r nodes now) h n b i e f = h n b (subst (λ (z : List Node). In n z) nodes i) e f

text_there : (P : Tree) → Leads opening P → (n : Node) (b : List ℕ) → In n P.nodes → kind_of n ≡ Text b → b ≡ [] → ⊥
text_there P stays n b (inl e) k f = let t : Document ≡ Text b = ap kind_of e ∙ k in absurd (cc)
text_there P stays n b (inr i) k f = absurd i
text_there P (more {Q = Q} l g) n b i k f = text_grown Q P g (text_there Q l) n b i k f

some_of : (b : Bool) (xs ys : List ℕ) → 0 < length xs → 0 < length ys → 0 < length (cond b xs ys)
some_of true xs ys h g = h
some_of false xs ys h g = g

escape_some : (c : ℕ) → 0 < length (escape c)
escape_some c = some_of (c == 38) _ _ (omega arith) (some_of (c == 60) _ _ (omega arith) (some_of (c == 62) _ _ (omega arith) (omega arith)))

escaped_some : (b : List ℕ) → (b ≡ [] → ⊥) → 0 < length (escaped b)
escaped_some [] h = absurd (h refl)
escaped_some (c ∷ cs) h = let s = escape_some c in let l = length-append (escape c) (escaped cs) in omega arith

pub text_some : (P : Tree) → Leads opening P → (n : Node) (b : List ℕ) → In n P.nodes → kind_of n ≡ Text b → 0 < length (escaped b)
text_some P l n b i k = escaped_some b (text_there P l n b i k)

pub start_some : (name : List ℕ) → 0 < length (start_tag name)
start_some name = omega arith

pub end_some : (name : List ℕ) → 0 < length (end_tag name)
end_some name = omega arith

-- ---- the action

-- what the bytes that are new tell
pub record Counted (old new : List ℕ) (a : Option Acted) : Type 0 where
  pub nothing : length new ≡ length old → a ≡ None
  pub some : length old < length new → a ≡ Some (outcomes.Wrote (length new - length old))

pub counted_by : (before : ℕ) (old new : List ℕ) (a : Option Acted) → before ≡ length old → (length new ≡ before → a ≡ None) → (before < length new → a ≡ Some (outcomes.Wrote (length new - before))) → Counted old new a
counted_by before old new a e none_new some_new = record {
  nothing = λ f. none_new (f ∙ sym e);
  some = λ l. some_new (omega arith) ∙ ap (λ (z : ℕ). Some (outcomes.Wrote (length new - z))) e;
}

-- no fewer bytes are there
pub no_fewer : (before : ℕ) (old new bytes : List ℕ) → before ≡ length old → new ≡ old ++ bytes → before ≤ length new
no_fewer before old new bytes e put = let l = ap length put ∙ length-append old bytes in omega arith

module _ (w m : Position) (v : View) (past : Past) (k : ℕ) (old new bytes : List ℕ) (put : new ≡ old ++ bytes) (a : Option Acted) (counted : Counted old new a) where
  pub wrote_some : 0 < length bytes → IsNext past.plan past.tree k (run.Wrote bytes) → Beside m v (past_acted (run.Wrote bytes) past) (suc k) → Moves past k w m v v old new a
  wrote_some h next beside =
      let l : length new ≡ length old + length bytes = ap length put ∙ length-append old bytes in
      let n : length new - length old ≡ length bytes = omega arith in
      subst (λ (z : Option Acted). Moves past k w m v v old new z) (sym (counted.some (omega arith))) (bytes, next, n, put, refl, beside)

  pub wrote_none : bytes ≡ [] → Beside m v past k → weight v.rows m < weight v.rows w → Moves past k w m v v old new a
  wrote_none e beside less =
      let same : new ≡ old = put ∙ (ap (λ (z : List ℕ). old ++ z) e ∙ append-nil old) in
      subst (λ (z : Option Acted). Moves past k w m v v old new z) (sym (counted.nothing (ap length same))) (same, refl, beside, less)
