-- Telling the matcher of one statement after another.
use Rattle.std.proofs.Common.{◌≡◌, false, List, [], ◌∷◌, ◌++◌, refl, sym, ◌∙◌, subst, append_assoc}
use Rattle.std.proofs.lemmas.List.{append-nil}
use Rattle.gcx_model.specs.Tree.{Node, serial_of}
use Rattle.gcx_model.specs.Paths.{matches}
use Rattle.gcx_model.specs.Members.{In}
use Rattle.gcx_model.specs.ItemView.{off_tree}
use Rattle.gcx_model.specs.Run.{Action, Offed}
use Rattle.gcx_model.specs.Placed.{offs_in}
use Rattle.gcx_model.specs.Growth.{level}
use Rattle.gcx_model.specs.Held.{path_of}
use Rattle.gcx_model.specs.Past.{Past, open_nodes, past_acted}
use Rattle.matcher.specs.Matcher.{MatcherAt}
use Rattle.matcher.specs.View.{MatcherView}
use Rattle.buf_tree.specs.declared.ahead.Ahead.{Ahead}
use Rattle.projector.specs.Signing.{AreDue, carried, with_more, HearsOf}

-- the matcher has heard of some of the statements, and these are left
pub record Tells (m0 m : MatcherView) (ws rest : List Ahead) : Type 0 where
  pub told : (past : Past) (ns : List Node) → MatcherAt m0 past false → AreDue past.plan past.tree ws ns
      → (A : List Action) × (ms : List Node) × MatcherAt m (with_more A past) false × AreDue past.plan past.tree rest ms × (A ++ carried rest ms ≡ carried ws ns)

pub tells_none : (m : MatcherView) (ws : List Ahead) → Tells m m ws ws
tells_none m ws = record {
  told = λ past ns h d. ([], ns, subst (λ (A : List Action). MatcherAt m (record past { acts = A }) false) (sym (append-nil past.acts)) h, d, refl);
}

-- what `sign` tells
abbrev pub Signs : MatcherView → MatcherView → Ahead → Type 0
Signs m0 m w = (past : Past) (n : Node) → MatcherAt m0 past false → In (off_tree w.off) (offs_in past.plan.body) → In n (open_nodes past.tree) → level n ≡ w.level → In n (matches past.tree 0 (path_of past.plan (off_tree w.off).base))
    → MatcherAt m (past_acted (Offed (off_tree w.off) (serial_of n)) past) false

pub tells_more : (m0 m m' : MatcherView) (ws rest : List Ahead) (w : Ahead) → Tells m0 m ws (w ∷ rest) → Signs m m' w → Tells m0 m' ws rest
tells_more m0 m m' ws rest w t s = record {
  told = λ past ns h d. let r = t.told past ns h d in go past ns r.0 r.1 r.2 r.3 r.4;
}
  where
    go : (past : Past) (ns : List Node) (A : List Action) (ms : List Node) → MatcherAt m (with_more A past) false → AreDue past.plan past.tree (w ∷ rest) ms → A ++ carried (w ∷ rest) ms ≡ carried ws ns
        → (B : List Action) × (js : List Node) × MatcherAt m' (with_more B past) false × AreDue past.plan past.tree rest js × (B ++ carried rest js ≡ carried ws ns)
    go past ns A [] h d e = absurd d
    go past ns A (n ∷ ms) h d e = (
      A ++ Offed (off_tree w.off) (serial_of n) ∷ [],
      ms,
      subst (λ (B : List Action). MatcherAt m' (record past { acts = B }) false) (append_assoc past.acts A (Offed (off_tree w.off) (serial_of n) ∷ []))
          (s (with_more A past) n h d.0.stated d.0.is_open d.0.same d.0.base),
      d.1,
      append_assoc A (Offed (off_tree w.off) (serial_of n) ∷ []) (carried rest ms) ∙ e,
    )

pub tells_all : (m0 m : MatcherView) (ws : List Ahead) → Tells m0 m ws [] → HearsOf m0 m ws
tells_all m0 m ws t past ns h d = let r = t.told past ns h d in subst (λ (A : List Action). MatcherAt m (with_more A past) false) (sym (append-nil r.0) ∙ r.4) r.2
