-- The open tree behind each front of what is seen is within limits.
use Rattle.std.proofs.Common.{ℕ, ◌≡◌, ◌+◌, ◌≤◌, Bool, List, [], ◌∷◌, ◌++◌, length, Option, Some, None, refl, sym, ap, ◌∙◌, subst, arith, length-append}
use Rattle.std.proofs.lemmas.Str.{length-le-encodes}
use lib.Utf8.{encodes}
use Rattle.gcx_base.specs.declared.kind.Kind.{Kind}
use Rattle.gcx_base.specs.declared.kind.Kind.TheVariants.{Document, Element, Text}
use Rattle.gcx_base.specs.declared.limits.Limits.{Limits}
use Rattle.gcx_model.specs.Tree.{Node, Root, Under, Tree, TreeToken, Start, Chars, End, opening, grow, grow_at, grow_all}
use Rattle.gcx_model.specs.Members.{In}
use Rattle.gcx_model.specs.Growth.{level}
use Rattle.gcx_model.specs.Grammar.{spelling}
use Rattle.gcx_model.specs.Fronts.{frames_spelling, piece_spelling, seen_tokens}
use Rattle.gcx_model.specs.Faults.{Clean}
use Rattle.gcx_model.specs.Seen.{DocumentEnds, closes, stays_open, seen_tree}
use Rattle.tree_laws.proofs.Matches.{Grown-opening, Grown-all}
use Rattle.tree_laws.proofs.Fed.{nodes_stay}
use Rattle.tree_laws.proofs.Growing.{grow_all-append}
use Rattle.doc_laws.specs.Bounds.{SeenWithin}
use Rattle.doc_laws.proofs.Levels.{NoneDeep, front_low}
use Rattle.doc_laws.proofs.Counted.{opens, opens-append, opens_nodes, front_counted}

-- the document node or an element, and so is what is above it
abbrev HasChildren : Node → Type 0
HasChildren Root = Unit {0}
HasChildren (Under p s Document) = ⊥
HasChildren (Under p s (Element name)) = HasChildren p
HasChildren (Under p s (Text b)) = ⊥

abbrev AtHasChildren : Option Node → Type 0
AtHasChildren None = Unit {0}
AtHasChildren (Some p) = HasChildren p

parent_has : (p : Node) (s : ℕ) (k : Kind) → HasChildren (Under p s k) → HasChildren p
parent_has p s Document h = absurd h
parent_has p s (Element name) h = h
parent_has p s (Text b) h = absurd h

-- the innermost open node is none or such
at_has : (ts : List TreeToken) (P : Tree) → AtHasChildren P.at → AtHasChildren (grow_all ts P).at
at_has [] P h = h
at_has (t ∷ ts) P h = at_has ts (grow t P) (one P.at t refl h)
  where
    one : (at : Option Node) (t : TreeToken) → P.at ≡ at → AtHasChildren at → AtHasChildren (grow_at at t P).at
    one None t e h = subst AtHasChildren (sym e) h
    one (Some p) (Start name) e h = h
    one (Some p) (Chars b) e h = h
    one (Some Root) End e h = tt
    one (Some (Under p s k)) End e h = parent_has p s k h

-- so it is no deeper than the elements are
at_low : (most : ℕ) (P : Tree) (p : Node) → NoneDeep most P → In p P.nodes → HasChildren p → level p ≤ most
at_low most P Root h i k = omega arith
at_low most P (Under p s Document) h i k = absurd k
at_low most P (Under p s (Element name)) h i k = h (Under p s (Element name)) name i refl
at_low most P (Under p s (Text b)) h i k = absurd k

-- the end of the document node opens no node, and adds none
no_opens : (lim : Limits) (b : List ℕ) (over : Bool) (ends : List TreeToken) → DocumentEnds lim b over ends → opens ends ≡ 0
no_opens lim b over ends (closes i f e) = ap opens e
no_opens lim b over ends (stays_open n e) = ap opens e

end_nodes : (at : Option Node) (P : Tree) → (grow_at at End P).nodes ≡ P.nodes
end_nodes None P = refl
end_nodes (Some Root) P = refl
end_nodes (Some (Under p s k)) P = refl

no_nodes : (lim : Limits) (b : List ℕ) (over : Bool) (ends : List TreeToken) (P : Tree) → DocumentEnds lim b over ends → (grow_all ends P).nodes ≡ P.nodes
no_nodes lim b over ends P (closes i f e) = ap (λ l. (grow_all l P).nodes) e ∙ end_nodes P.at P
no_nodes lim b over ends P (stays_open n e) = ap (λ l. (grow_all l P).nodes) e

pub seen_within : SeenWithin
seen_within lim b over ts before after h parts =
    let fs = h.seen.frames in
    let x = h.seen.content in
    let o = h.seen.opens in
    let chars : List ℕ = frames_spelling fs ++ spelling x in
    let P : Tree = seen_tree before in
    let low : NoneDeep lim.depth (grow_all (seen_tokens fs x) opening) = front_low lim fs x (piece_spelling h.seen.piece) o.good.0 o.good.1 (subst (Clean lim) (sym o.spelled) h.longest.clean) in
    let whole : (grow_all ts opening).nodes ≡ (grow_all (seen_tokens fs x) opening).nodes =
    ap (λ l. (grow_all l opening).nodes) h.tokens_are
    ∙ ap (λ (z : Tree). z.nodes) (grow_all-append h.tags h.ends opening)
    ∙ no_nodes lim b over h.ends (grow_all h.tags opening) h.document_ends
    ∙ ap (λ l. (grow_all l opening).nodes) h.seen.tokens_are in
    let elements : NoneDeep lim.depth P = λ n name i k.
    low n name (subst (λ (z : List Node). In n z) (ap (λ (z : Tree). z.nodes) (sym (grow_all-append before after opening)) ∙ ap (λ l. (grow_all l opening).nodes) (sym parts) ∙ whole) (nodes_stay after P n i)) k in
    let counted = front_counted fs x in
    let nodes = opens_nodes before opening in
    let split = opens-append before after in
    let split_ends = opens-append h.tags h.ends in
    let none = no_opens lim b over h.ends h.document_ends in
    let e1 = ap opens (sym parts ∙ h.tokens_are) in
    let e2 = ap opens h.seen.tokens_are in
    let e3 = ap length o.spelled in
    let e4 = length-append chars (piece_spelling h.seen.piece) in
    let e5 = length-le-encodes h.chars in
    let e6 = ap length h.longest.parts in
    let e7 = length-append (encodes h.chars) h.longest.rest in
    let e8 = h.longest.within in
    let few : length P.nodes ≤ 1 + length (encodes h.chars) = omega arith in
    record {
      elements = elements;
      open_elements = λ p at. at_low lim.depth P p elements ((Grown-all before opening Grown-opening).at_in p at) (subst AtHasChildren at (at_has before opening tt));
      nodes = omega arith;
      at_most = omega arith;
    }
