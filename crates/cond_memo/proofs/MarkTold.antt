-- What a mark is told of a node, and what it tells afterwards.
use Rattle.std.proofs.Common.{◌≡◌, ◌<◌, ◌≤◌, ◌+◌, ℕ, Bool, true, false, List, [], ◌∷◌, length, Option, Some, None, refl, sym, ◌∙◌, ap, subst, inl, inr, ◌⊎◌, arith}
use Rattle.std.specs.Prelude.{Result, IfOk}
use Rattle.std.specs.declared.result.Result.TheVariants.{Ok, Err}
use Rattle.std.proofs.lemmas.Bool.{false≢true, eqb-true, eq-eqb, cases_eq}
use Rattle.gcx_base.specs.declared.ids.Serial.{Serial}
use Rattle.gcx_base.specs.declared.steps.Step.{Step}
use Rattle.gcx_model.specs.Tree.{Node, serial_of, Tree, is_closed}
use Rattle.gcx_model.specs.Paths.{matches}
use Rattle.gcx_model.specs.Members.{In}
use Rattle.gcx_model.specs.Truth.{settle}
use Rattle.tree_laws.proofs.Matches.{Grown, Numbered-high, Numbered-same, Matches-in, Matches-from}
use Rattle.buf_tree.specs.Shape.{Cell, num}
use Rattle.cond_eval.specs.Asking.{RowsOf}
use Rattle.cond_eval.specs.Reads.{NodeAt}
use Rattle.cond_memo.specs.Marks.{answer, known, settled, does, is_settled, KeepsValue, AsksLiteral, NotFound, Tried, Knows, Fits, IsMark, Asks, Settles, Found}
use Rattle.cond_eval.specs.declared.watermark.Watermark.{Watermark}
use Rattle.cond_memo.specs.declared.mark.Ask.{Ask}
use Rattle.cond_memo.specs.declared.mark.Mark.{Mark}
use Rattle.cond_eval.proofs.Rows.{grown_tree, node_for, serial_told}
use Rattle.cond_memo.proofs.MarkTrees.{hit_high, answer_found, answer_none}
use Rattle.cond_memo.proofs.MarkLooks.{keeps_value}

-- each row has a number below that of the nodes
pub rows_below : (rows : List Cell) (P : Tree) (keep : Node → Bool) → RowsOf rows P keep → (nodes : ℕ) → length P.nodes ≡ nodes → (c : Cell) → In c rows → num c < nodes
rows_below rows P keep of nodes e c i =
    let n = node_for rows P keep of c i in
    let h = Numbered-high 0 P.nodes (grown_tree rows P keep of).numbered n.0 n.1.among in
    let t = serial_told rows P keep of c n.0 n.1 in
    omega arith

module _ (P : Tree) (g : Grown P) (n : Node) (i : In n P.nodes) (of : Serial) (e : serial_of n ≡ of.0) where
  -- nothing is tried yet
  fresh : (ask : Option Ask) (steps : List Step) → (steps ≡ [] → ⊥) → Tried P ask (matches P (serial_of n) steps) None of.0
  fresh ask [] some = absurd (some refl)
  fresh ask (s ∷ rest) some = record {
    each = λ j k low.
        let m = Matches-in P (serial_of n) (s ∷ rest) j k in
        let h = hit_high P g (serial_of n) s rest j m.0 m.1 in
        absurd (omega arith);
    open_in = λ t f. absurd (cc);
    no_ask = λ _. refl;
  }

  -- a mark that is turned to another node
  pub turned : (m : Mark) → IsMark m P → IsMark (record m { of = Some of; upto = record { 0 = of.0 }; waiting = None; value = None }) P
  turned m k = record {
    fits = k.fits;
    literal = k.literal;
    told = λ s f. (
      n,
      i,
      e ∙ ap (λ (x : Serial). x.0) (same s f),
      record {
        least = let low : serial_of n ≤ of.0 = omega arith in low;
        most = let h = Numbered-high 0 P.nodes g.numbered n i in let high : of.0 < length P.nodes = omega arith in high;
        truth = λ v t. absurd (cc);
        tried = λ _ some. fresh m.ask m.steps some;
      },
    );
  }
    where
      same : (s : Serial) → Some of ≡ Some s → of ≡ s
      same s f = cc

  pub knows_of : (m : Mark) → IsMark m P → m.of ≡ Some of → Knows m P n
  knows_of m k f =
      let t = k.told of f in
      subst (λ (x : Node). Knows m P x) (Numbered-same 0 P.nodes g.numbered t.0 n t.1 i (t.2 ∙ sym e)) t.3

  -- a mark tells of the node what is known of it
  pub is_mark : (m : Mark) → Fits m.steps m.last → AsksLiteral m.ask → m.of ≡ Some of → Knows m P n → IsMark m P
  is_mark m f l o k = record { fits = f; literal = l; told = λ s h. (n, i, e ∙ ap (λ (x : Serial). x.0) (same s (sym o ∙ h)), k) }
    where
      same : (s : Serial) → Some of ≡ Some s → of ≡ s
      same s h = cc

  -- ---- after a search
  module _ (m : Mark) (k : Knows m P n) (l : AsksLiteral m.ask) (waiting : Option Serial) (upto : Watermark) (nodes : ℕ) (count : length P.nodes ≡ nodes) (up : (upto.0 ≡ m.upto.0) ⊎ (upto.0 + 1 ≡ nodes)) where
    abbrev ms : List Node
    ms = matches P (serial_of n) m.steps

    bounds : (serial_of n ≤ upto.0) × (upto.0 < length P.nodes)
    bounds = elim up [
      | inl h ↦ (let a = k.least in let b = k.most in (omega arith, omega arith))
      | inr h ↦ (let b = Numbered-high 0 P.nodes g.numbered n i in (omega arith, omega arith))
    ]

    pub told_by : (found over : Bool) → is_closed P n ≡ over → Settles P m.ask ms found → answer P m.steps m.ask n ≡ known (settled found over)
    told_by true over c f = answer_found P m.steps n m.ask l f
    told_by false true c f = answer_none P m.steps n m.ask l f ∙ ap (settle false) c
    told_by false false c f = answer_none P m.steps n m.ask l f ∙ ap (settle false) c

    pub knows_now : (found over : Bool) → is_closed P n ≡ over → Found P m.steps m.ask ms waiting upto.0 found → Knows (record m { waiting = waiting; upto = upto; value = settled found over }) P n
    knows_now found over c f = record {
      least = bounds.0;
      most = bounds.1;
      truth = λ v h. told_by found over c f.0 ∙ ap known h;
      tried = λ h some. f.1 (open_still found over h) some;
    }
      where
        open_still : (found over : Bool) → settled found over ≡ None → found ≡ false
        open_still true over h = absurd (cc)
        open_still false over h = refl

-- ---- a whole question

-- the mark is about the node now, with the question as before
pub record Turned (P : Tree) (of : Serial) (m now : Mark) : Type 0 where
  pub mark : IsMark now P
  pub of_it : now.of ≡ Some of
  pub var : now.var ≡ m.var
  pub steps : now.steps ≡ m.steps
  pub ask : now.ask ≡ m.ask

pub same_serial : (s t : Serial) → s.0 ≡ t.0 → s ≡ t
same_serial s t e = let f : ℕ → Serial = λ x. record { 0 = x } in ap f e

pub turned_mark : (rows : List Cell) (P : Tree) (keep : Node → Bool) → RowsOf rows P keep → (n : Node) → In n P.nodes → (of : Serial) → serial_of n ≡ of.0 → (m now : Mark)
    → (m.of ≡ Some of → now ≡ m) → ((m.of ≡ Some of → ⊥) → now ≡ record m { of = Some of; upto = record { 0 = of.0 }; waiting = None; value = None }) → IsMark m P → Turned P of m now
turned_mark rows P keep r n i of e m now same other k = go m.of refl
  where
    g : Grown P
    g = grown_tree rows P keep r

    is_same : m.of ≡ Some of → Turned P of m now
    is_same f =
        let s = same f in
        record { mark = subst (λ (x : Mark). IsMark x P) (sym s) k; of_it = ap (λ (x : Mark). x.of) s ∙ f; var = ap (λ (x : Mark). x.var) s; steps = ap (λ (x : Mark). x.steps) s; ask = ap (λ (x : Mark). x.ask) s }

    is_other : (m.of ≡ Some of → ⊥) → Turned P of m now
    is_other f =
        let s = other f in
        record { mark = subst (λ (x : Mark). IsMark x P) (sym s) (turned P g n i of e m k); of_it = ap (λ (x : Mark). x.of) s; var = ap (λ (x : Mark). x.var) s; steps = ap (λ (x : Mark). x.steps) s; ask = ap (λ (x : Mark). x.ask) s }

    go : (o : Option Serial) → m.of ≡ o → Turned P of m now
    go None f = is_other (λ h. let z : ◌≡◌ {A = Option Serial} None (Some of) = sym f ∙ h in absurd (cc))
    go (Some s) f = elim (cases_eq s.0 of.0) [
      | inl h ↦ is_same (f ∙ ap Some (same_serial s of h))
      | inr h ↦ is_other (λ z. let y : Some s ≡ Some of = sym f ∙ z in let x : s ≡ of = cc in h (ap (λ (t : Serial). t.0) x))
    ]

pub asked_told : (rows : List Cell) (nodes p : ℕ) (P : Tree) (keep : Node → Bool) (n : Node) (of : Serial) → serial_of n ≡ of.0 → (m now found_mark kept_mark : Mark) → Asks rows nodes m.steps m.ask p P keep n → Turned P of m now → now.value ≡ None
    → (found over : Bool) → found_mark ≡ record now { waiting = found_mark.waiting; upto = found_mark.upto } → (found_mark.upto.0 ≡ now.upto.0) ⊎ (found_mark.upto.0 + 1 ≡ nodes)
    → ((P : Tree) (keep : Node → Bool) (n : Node) → Asks rows nodes now.steps now.ask p P keep n → ((now.steps ≡ [] → ⊥) → Tried P now.ask (matches P (serial_of n) now.steps) now.waiting now.upto.0)
    → Found P now.steps now.ask (matches P (serial_of n) now.steps) found_mark.waiting found_mark.upto.0 found)
    → over ≡ is_closed P n → kept_mark ≡ record found_mark { value = settled found over } → (result : Option Bool) → result ≡ settled found over
    → (answer P m.steps m.ask n ≡ known result) × IsMark kept_mark P
asked_told rows nodes p P keep n of e m now fm km a t none found over frame up told over_is kept result is = (
  ap (λ (s : List Step). answer P s m.ask n) (sym t.steps) ∙ (ap (λ (x : Option Ask). answer P now.steps x n) (sym t.ask) ∙ (told_by P g n i of e now k t.mark.literal fm.waiting fm.upto nodes b.count up found over (sym over_is) f.0 ∙ ap known (sym is))),
  subst (λ (x : Mark). IsMark x P) (sym whole) (is_mark P g n i of e (record now { waiting = fm.waiting; upto = fm.upto; value = settled found over }) t.mark.fits t.mark.literal t.of_it (knows_now P g n i of e now k t.mark.literal fm.waiting fm.upto nodes b.count up found over (sym over_is) f)),
)
  where
    g : Grown P
    g = grown_tree rows P keep a.at.rows_of

    i : In n P.nodes
    i = a.at.among

    k : Knows now P n
    k = knows_of P g n i of e now t.mark t.of_it

    b : Asks rows nodes now.steps now.ask p P keep n
    b = subst (λ (s : List Step). Asks rows nodes s now.ask p P keep n) (sym t.steps) (subst (λ (x : Option Ask). Asks rows nodes m.steps x p P keep n) (sym t.ask) a)

    f : Found P now.steps now.ask (matches P (serial_of n) now.steps) fm.waiting fm.upto.0 found
    f = told P keep n b (k.tried none)

    whole : km ≡ record now { waiting = fm.waiting; upto = fm.upto; value = settled found over }
    whole = kept ∙ ap (λ (x : Mark). record x { value = settled found over }) frame

-- ---- without steps the node is the only match

module _ (rows : List Cell) (nodes : ℕ) (ask : Option Ask) (p : ℕ) (P : Tree) (keep : Node → Bool) (n : Node) (a : Asks rows nodes [] ask p P keep n) where
  abbrev itself : List Node
  itself = matches P (serial_of n) []

  itself_in : In n itself
  itself_in = Matches-from P (serial_of n) [] n a.at.among (eq-eqb (serial_of n) (serial_of n) refl)

  only_itself : (j : Node) → In j itself → n ≡ j
  only_itself j i =
      let m = Matches-in P (serial_of n) [] j i in
      Numbered-same 0 P.nodes (grown_tree rows P keep a.at.rows_of).numbered n j a.at.among m.0 (sym (eqb-true (serial_of j) (serial_of n) m.1))

  pub itself_waits : (b : Bool) → b ≡ is_settled P ask n → b ≡ false → NotFound P ask itself
  itself_waits b e f j i s d = false≢true (sym f ∙ (e ∙ (ap (is_settled P ask) (only_itself j i) ∙ s)))

  pub itself_told : (b : Bool) → b ≡ is_settled P ask n → b ≡ true → (d : Bool) → d ≡ does P ask n → Settles P ask itself d
  itself_told b e f true g = record { match_at = n; among = itself_in; settled = sym e ∙ f; does_so = sym g }
  itself_told b e f false g = λ j i s d. false≢true (g ∙ (ap (does P ask) (only_itself j i) ∙ d))

  pub itself_kept : KeepsValue P keep ask n
  itself_kept = keeps_value P keep ask itself n a.kept itself_in

pub itself_ok : {E : Type 0} (rows : List Cell) (nodes : ℕ) (ask : Option Ask) (p : ℕ) (b : Bool) → b ≡ true → ((P : Tree) (keep : Node → Bool) (m : Node) → NodeAt rows P keep p m → b ≡ is_settled P ask m) → (r : Result Bool E)
    → IfOk r (λ d. (P : Tree) (keep : Node → Bool) (m : Node) → NodeAt rows P keep p m → KeepsValue P keep ask m → d ≡ does P ask m)
    → IfOk r (λ d. (P : Tree) (keep : Node → Bool) (n : Node) → Asks rows nodes [] ask p P keep n → Settles P ask (matches P (serial_of n) []) d)
itself_ok rows nodes ask p b e s (Ok d) h = λ P keep n a. itself_told rows nodes ask p P keep n a b (s P keep n a.at) e d (h P keep n a.at (itself_kept rows nodes ask p P keep n a))
itself_ok rows nodes ask p b e s (Err x) h = tt
