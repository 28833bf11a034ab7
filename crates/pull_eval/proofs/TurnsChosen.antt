-- The lists of a loop: what they are after a look at a node's matches, which matches are chosen, and to which one a loop goes.
use Rattle.std.proofs.Common.{◌≡◌, ◌==◌, ◌↔◌, ℕ, zero, suc, ◌<◌, ◌≤◌, Bool, true, false, List, [], ◌∷◌, length, get_or, Option, Some, None, refl, sym, ◌∙◌, ap, subst, inl, inr, arith, eqb-true, eq-eqb, ltb, ltb-true, ltb-false}
use Rattle.std.specs.Prelude.{slice_get, slice_index_or}
use Rattle.std.specs.List.{Contains, filter}
use Rattle.std.specs.List.Sorted.{IsPartitionPoint, IsPermutation}
use Rattle.std.proofs.lemmas.Bool.{cases_lt}
use Rattle.std.proofs.lemmas.List.Sorted.{Contains-permutation, IsPermutation-sym}
use Rattle.gcx_base.specs.declared.ids.Serial.{Serial}
use Rattle.gcx_base.specs.declared.steps.Step.{Step}
use Rattle.gcx_model.specs.Tree.{Node, serial_of, Tree, is_closed}
use Rattle.gcx_model.specs.Paths.{matches}
use Rattle.gcx_model.specs.Members.{In}
use Rattle.tree_laws.proofs.Lists.{In-filter, In-kept}
use Rattle.tree_laws.proofs.Matches.{Matches-rising, Rising}
use Rattle.tree_laws.proofs.Fed.{nodes_are_numbered}
use Rattle.pass_laws.specs.ValueLists.{IsValueAt}
use Rattle.node_store.specs.declared.store.Place.{Place}
use Rattle.buf_tree.specs.Shape.{Cell, num}
use Rattle.cond_eval.specs.Asking.{PlacedAt}
use Rattle.cond_eval.specs.Reads.{NodeAt}
use Rattle.cond_eval.specs.Comparing.{AreClosed, KeepsMatches}
use Rattle.cond_eval.specs.declared.sets.Member.{Member}
use Rattle.cond_eval.proofs.Comparisons.{closed_read}
use Rattle.cond_eval.proofs.Rows.{grown_tree}
use Rattle.pull_eval.specs.declared.turns.Entry.{Entry}
use Rattle.pull_eval.specs.declared.turns.Leap.TheVariants.{To, Over}
use Rattle.pull_eval.specs.declared.turns.Turns.{Turns}
use Rattle.pull_eval.specs.Turns.{AreBySerial, AreByText, AreListed, Chooses, Chosen, IsFirstHit, IsHit, IsTurns, Leaps, Lists, Meets, TurnsToNode, turns_at}
use Rattle.pull_eval.specs.Listing.{HasValueOf, HitsAll, ListsAll}
use Rattle.pull_eval.proofs.TurnsListed.{first_hit, match_closed, matches_read}

-- ---- members of a list in another order

in_contains : {X : Type 0} (xs : List X) (x : X) → In x xs → Contains xs x
in_contains [] x i = absurd i
in_contains (y ∷ xs) x (inl e) = (zero, omega arith, e)
in_contains (y ∷ xs) x (inr i) = let r = in_contains xs x i in let l = r.1 in (suc r.0, omega arith, r.2)

contains_in : {X : Type 0} (xs : List X) (x : X) (k : ℕ) → k < length xs → slice_index_or xs k x ≡ x → In x xs
contains_in [] x k l e = absurd (omega arith)
contains_in (y ∷ xs) x zero l e = inl e
contains_in (y ∷ xs) x (suc k) l e = inr (contains_in xs x k (omega arith) e)

pub in_permuted : {X : Type 0} (xs ys : List X) → IsPermutation xs ys → (x : X) → In x xs → In x ys
in_permuted xs ys p x i = let c = Contains-permutation xs ys x p (in_contains xs x i) in contains_in ys x c.0 c.1 c.2

pub from_permuted : {X : Type 0} (xs ys : List X) → IsPermutation xs ys → (x : X) → In x ys → In x xs
from_permuted xs ys p x i = in_permuted ys xs (IsPermutation-sym xs ys p) x i

-- ---- the lists of a node

listed_permuted : (rows : List Cell) (P : Tree) (steps : List Step) (ms : List Node) (es fs : List Entry) → IsPermutation es fs → AreListed rows P steps ms es → AreListed rows P steps ms fs
listed_permuted rows P steps ms es fs p l = record {
  each = λ j i v w. let e = l.each j i v w in (e.0, in_permuted es fs p e.0 e.1, e.2, e.3);
  only = λ e i. l.only e (from_permuted es fs p e i);
}

abbrev number : ℕ → Serial
number n = record { 0 = n }

-- whether what is kept is of the serial
pub that_is : (kept : Option Serial) (other serial : Serial) (b : Bool) → kept ≡ Some other → b ≡ (other.0 == serial.0) → (b ≡ true) ↔ (kept ≡ Some serial)
that_is kept other serial b e f = (there, back)
  where
    there : b ≡ true → kept ≡ Some serial
    there t = e ∙ ap (λ (n : ℕ). Some (number n)) (eqb-true other.0 serial.0 (sym f ∙ t))

    back : kept ≡ Some serial → b ≡ true
    back g = let h : ◌≡◌ {A = Option Serial} (Some other) (Some serial) = sym e ∙ g in f ∙ eq-eqb other.0 serial.0 (cc)

-- what is kept stands for no node
pub no_turns : (rows : List Cell) (P : Tree) (t : Turns) → t.of ≡ None → IsTurns rows P t
no_turns rows P t e = record { lists = λ s f. absurd (let g = sym e ∙ f in cc); chosen = λ s o f g. absurd (let h = sym e ∙ f in cc) }

-- what is at hand is that of the node
pub turns_same : (rows : List Cell) (t : Turns) (p : ℕ) (of : Serial) → t.of ≡ Some of → ((c : Cell) → In c rows → c.place ≡ p → num c ≡ of.0) → TurnsToNode rows t t p
turns_same rows t p of is serial P keep a at closed kept old = (old, (of, is, sym (serial at.cell at.cell_among at.at) ∙ at.number))

module _ (rows : List Cell) (t u : Turns) (p : ℕ) (of : Serial) (path : List Step) (path_is : path ≡ t.step.now ∷ []) (set : List Member) (are : AreClosed rows p path set) (es : List Entry) (all : ListsAll rows t.own.now set es) where
  -- what was looked at is that of the node
  pub turns_other : u.step.now ≡ t.step.now → u.own.now ≡ t.own.now → u.of ≡ Some of → u.outer ≡ None → u.first ≡ slice_get set 0 → IsPermutation es u.entries.items → AreByText u.entries.items
      → ((c : Cell) → In c rows → c.place ≡ p → num c ≡ of.0) → TurnsToNode rows t u p
  turns_other step own is outer first permuted by_text serial P keep a at closed kept old = (
    record {
      lists = λ s f. (a, same s f, lists);
      chosen = λ s o f g. absurd (let h = sym outer ∙ g in cc);
    },
    (of, is, sym here),
  )
    where
      here : serial_of a ≡ of.0
      here = sym at.number ∙ serial at.cell at.cell_among at.at

      same : (s : Serial) → u.of ≡ Some s → serial_of a ≡ s.0
      same s f = let e : ◌≡◌ {A = Option Serial} (Some of) (Some s) = sym is ∙ f in here ∙ (cc)

      are_of : AreClosed rows p (t.step.now ∷ []) set
      are_of = subst (λ (z : List Step). AreClosed rows p z set) path_is are

      listed : AreListed rows P t.own.now (turns_at P t a) u.entries.items
      listed = listed_permuted rows P t.own.now (turns_at P t a) es u.entries.items permuted (all P keep (turns_at P t a) (matches_read rows p (t.step.now ∷ []) t.own.now set are_of P keep a at closed kept))

      first_is : IsFirstHit rows (turns_at P t a) u.first
      first_is = subst (λ (h : Option Member). IsFirstHit rows (turns_at P t a) h) (sym first) (first_hit rows p (t.step.now ∷ []) t.own.now set are_of P keep a at closed kept)

      lists : Lists rows P u a
      lists = record {
        grown = at.rows_of.grown;
        among = at.among;
        closed = closed;
        first = subst (λ (s : Step). IsFirstHit rows (matches P (serial_of a) (s ∷ [])) u.first) (sym step) first_is;
        listed = subst (λ (s : Step). AreListed rows P u.own.now (matches P (serial_of a) (s ∷ [])) u.entries.items) (sym step)
            (subst (λ (o : List Step). AreListed rows P o (turns_at P t a) u.entries.items) (sym own) listed);
        by_text = by_text;
      }

-- ---- those that are chosen

-- what is chosen is that of the node
pub chosen_same : (rows : List Cell) (t : Turns) (q : ℕ) (outer : Serial) → t.outer ≡ Some outer → Chooses rows t t q outer
chosen_same rows t q outer is P keep b at closed same kept old = (old, refl, is)

-- the two are of one loop, and have the same lists
pub record HasSame (t u : Turns) : Type 0 where
  pub step : u.step.now ≡ t.step.now
  pub own : u.own.now ≡ t.own.now
  pub other : u.other.now ≡ t.other.now
  pub of : u.of ≡ t.of
  pub first : u.first ≡ t.first
  pub entries : u.entries.items ≡ t.entries.items

module _ (rows : List Cell) (P : Tree) (t u : Turns) (same : HasSame t u) where
  abbrev path_at : Node → Step → List Node
  path_at a s = matches P (serial_of a) (s ∷ [])

  lists_same : (a : Node) → Lists rows P t a → Lists rows P u a
  lists_same a l = record {
    grown = l.grown;
    among = l.among;
    closed = l.closed;
    first = subst (λ (s : Step). IsFirstHit rows (path_at a s) u.first) (sym same.step) (subst (λ (h : Option Member). IsFirstHit rows (turns_at P t a) h) (sym same.first) l.first);
    listed = subst (λ (s : Step). AreListed rows P u.own.now (path_at a s) u.entries.items) (sym same.step)
        (subst (λ (o : List Step). AreListed rows P o (turns_at P t a) u.entries.items) (sym same.own)
        (subst (λ (es : List Entry). AreListed rows P t.own.now (turns_at P t a) es) (sym same.entries) l.listed));
    by_text = subst (λ (es : List Entry). AreByText es) (sym same.entries) l.by_text;
  }

  at_old : (a j : Node) → In j (turns_at P u a) → In j (turns_at P t a)
  at_old a j i = subst (λ (s : Step). In j (path_at a s)) same.step i

  at_new : (a j : Node) → In j (turns_at P t a) → In j (turns_at P u a)
  at_new a j i = subst (λ (s : Step). In j (path_at a s)) (sym same.step) i

  meets_old : (b j : Node) → Meets P u b j → Meets P t b j
  meets_old b j (v, w, x) = (v, subst (λ (o : List Step). IsValueAt P j o v) same.own w, subst (λ (o : List Step). IsValueAt P b o v) same.other x)

  meets_new : (b j : Node) → Meets P t b j → Meets P u b j
  meets_new b j (v, w, x) = (v, subst (λ (o : List Step). IsValueAt P j o v) (sym same.own) w, subst (λ (o : List Step). IsValueAt P b o v) (sym same.other) x)

module _ (rows : List Cell) (t u : Turns) (q : ℕ) (outer : Serial) (same : HasSame t u) (set hs : List Member) (are : AreClosed rows q t.other.now set) (all : AreByText t.entries.items → HitsAll rows set t.entries.items hs) (permuted : IsPermutation hs u.hits.items) (by_serial : AreBySerial u.hits.items) where
  module _ (P : Tree) (keep : Node → Bool) (a b : Node) (lists : Lists rows P t a) (at : NodeAt rows P keep q b) (closed : is_closed P b ≡ true) (kept : KeepsMatches P keep b t.other.now) where
    abbrev ns : List Node
    ns = filter (is_closed P) (matches P (serial_of b) t.other.now)

    told : (h : Member) → In h hs ↔ HasValueOf t.entries.items P ns h
    told h = all lists.by_text P keep ns (closed_read rows q t.other.now set are P keep b at kept) h

    each_old : (j : Node) → In j (turns_at P t a) → Meets P t b j → (h : Member) × In h u.hits.items × IsHit rows h j
    each_old j i (v, own, (m, k, s)) =
        let e = lists.listed.each j i v own in
        let c = match_closed P (grown_tree rows P keep at.rows_of) b m t.other.now closed k in
        let here = (told e.0.hit).1 (m, In-kept (is_closed P) m (matches P (serial_of b) t.other.now) k c, (e.0, e.1, refl, e.2 ∙ sym s)) in
        (e.0.hit, in_permuted hs u.hits.items permuted e.0.hit here, e.3)

    only_old : (h : Member) → In h u.hits.items → (j : Node) × In j (turns_at P t a) × IsHit rows h j × Meets P t b j
    only_old h i =
        let m = (told h).0 (from_permuted hs u.hits.items permuted h i) in
        let e = m.2 in
        let j = lists.listed.only e.0 e.1 in
        let k = In-filter (is_closed P) m.0 (matches P (serial_of b) t.other.now) m.1 in
        (j.0, j.1, subst (λ (x : Member). IsHit rows x j.0) e.2 j.2, (e.0.text, j.3, (m.0, k.0, sym e.3)))

    chosen : Chosen rows P u a b
    chosen = record {
      among = at.among;
      closed = closed;
      each = λ j i w. each_old j (at_old rows P t u same a j i) (meets_old rows P t u same b j w);
      only = λ h i. let r = only_old h i in (r.0, at_new rows P t u same a r.0 r.1, r.2, meets_new rows P t u same b r.0 r.3);
      by_serial = by_serial;
    }

  pub chosen_other : u.outer ≡ Some outer → Chooses rows t u q outer
  chosen_other is P keep b at closed serial kept old = (
    record {
      lists = λ s f. let l = old.lists s (sym same.of ∙ f) in (l.0, l.1, lists_same rows P t u same l.0 l.2);
      chosen = λ s o f g.
          let l = old.lists s (sym same.of ∙ f) in
          (l.0, b, l.1, serial ∙ same_serial o g, lists_same rows P t u same l.0 l.2, chosen P keep l.0 b l.2 at closed kept);
    },
    same.of,
    is,
  )
    where
      same_serial : (o : Serial) → u.outer ≡ Some o → outer.0 ≡ o.0
      same_serial o g = let e : ◌≡◌ {A = Option Serial} (Some outer) (Some o) = sym is ∙ g in (cc)

-- ---- to which match a loop goes

module _ (rows : List Cell) (P : Tree) (t : Turns) (a : Node) (l : Lists rows P t a) where
  -- the first one is before all others
  pub first_leap : (h : Member) → t.first ≡ Some h → (p : Place) → p.0 ≡ h.place → Leaps rows (turns_at P t a) (λ j. ⊥) 0 (To p)
  first_leap h e p same =
      let f = subst (λ (o : Option Member). IsFirstHit rows (turns_at P t a) o) e l.first in
      (f.0, subst (λ (z : List Node). In f.0 z) (sym f.2) (inl refl), omega arith, subst (λ (k : ℕ). PlacedAt rows (serial_of f.0) k) (sym same) f.3.1, λ j i low less. none f.0 f.1 f.2 j i less)
    where
      none : (m : Node) (rest : List Node) → turns_at P t a ≡ m ∷ rest → (j : Node) → In j (turns_at P t a) → serial_of j < serial_of m → ⊥
      none m rest e j i less =
          let up = subst (λ (z : List Node). Rising z) e (Matches-rising P (nodes_are_numbered P l.grown).0 (serial_of a) (t.step.now ∷ [])) in
          elim (subst (λ (z : List Node). In j z) e i) [
            | inl s ↦ (let k = ap serial_of s in absurd (omega arith))
            | inr k ↦ (let m = up.0 j k in absurd (omega arith))
          ]

  pub no_first : t.first ≡ None → Leaps rows (turns_at P t a) (λ j. ⊥) 0 Over
  no_first e j i low = subst (λ (z : List Node). In j z) (subst (λ (o : Option Member). IsFirstHit rows (turns_at P t a) o) e l.first) i

abbrev pub is_early : (from : ℕ) → Member → Bool
is_early from h = ltb h.serial from

-- the hits before the number are those before the serial
module _ (hs : List Member) (from n : ℕ) (point : IsPartitionPoint (λ (h : Member). is_early from h ≡ true) (λ (h : Member). is_early from h ≡ false) hs n) where
  pub early : (k : ℕ) (d : Member) → k < n → (get_or hs k d).serial < from
  early k d l = ltb-true (get_or hs k d).serial from (point.0 k d (omega arith) l)

  pub late : (h : Member) → n < length hs → h ≡ get_or hs n h → from ≤ h.serial
  late h l is = let f = ltb-false (get_or hs n h).serial from (point.1 n h (omega arith) l) in let e = ap (λ (z : Member). z.serial) is in omega arith

hit_number : (hs : List Member) (h : Member) → In h hs → (k : ℕ) × (k < length hs) × ((d : Member) → get_or hs k d ≡ h)
hit_number [] h i = absurd i
hit_number (x ∷ hs) h (inl e) = (0, omega arith, λ d. e)
hit_number (x ∷ hs) h (inr i) = let r = hit_number hs h i in let l = r.1 in (suc r.0, omega arith, r.2)

module _ (rows : List Cell) (P : Tree) (t : Turns) (a b : Node) (c : Chosen rows P t a b) (from n : ℕ) where
  abbrev hs : List Member
  hs = t.hits.items

  -- of those below the number none is from the serial on
  none_low : ((k : ℕ) (d : Member) → k < n → (get_or hs k d).serial < from) → (h : Member) (j : Node) → IsHit rows h j → from ≤ serial_of j → (k : ℕ) → ((d : Member) → get_or hs k d ≡ h) → k < n → ⊥
  none_low low h j hit le k is less =
      let l = low k h less in
      let s : (get_or hs k h).serial ≡ h.serial = ap (λ (z : Member). z.serial) (is h) in
      let e = hit.0 in
      absurd (omega arith)

  pub leap_to : ((k : ℕ) (d : Member) → k < n → (get_or hs k d).serial < from) → (h : Member) → n < length hs → h ≡ get_or hs n h → from ≤ h.serial → (p : Place) → p.0 ≡ h.place
      → Leaps rows (turns_at P t a) (λ j. Meets P t b j → ⊥) from (To p)
  leap_to low h l is high p same =
      let o = c.only h (subst (λ (z : Member). In z hs) (sym is) (hit_in hs n h l)) in
      let e = o.2.0 in
      (o.0, o.1, omega arith, subst (λ (k : ℕ). PlacedAt rows (serial_of o.0) k) (sym same) o.2.1, λ j i le less meets. none o.0 e j i le less meets)
    where
      hit_in : (xs : List Member) (k : ℕ) (d : Member) → k < length xs → In (get_or xs k d) xs
      hit_in [] k d m = absurd (omega arith)
      hit_in (x ∷ xs) zero d m = inl refl
      hit_in (x ∷ xs) (suc k) d m = inr (hit_in xs k d (omega arith))

      none : (m : Node) → h.serial ≡ serial_of m → (j : Node) → In j (turns_at P t a) → from ≤ serial_of j → serial_of j < serial_of m → Meets P t b j → ⊥
      none m e j i le less meets =
          let g = c.each j i meets in
          let r = hit_number hs g.0 g.1 in
          elim (cases_lt r.0 n) [
            | inl k ↦ none_low low g.0 j g.2 le r.0 r.2 k
            | inr k ↦ (
                let up = c.by_serial n r.0 h k r.1 in
                let s : h.serial ≡ (get_or hs n h).serial = ap (λ (z : Member). z.serial) is in
                let u : (get_or hs r.0 h).serial ≡ g.0.serial = ap (λ (z : Member). z.serial) (r.2 h) in
                let f = g.2.0 in
                absurd (omega arith))
          ]

  pub leap_over : ((k : ℕ) (d : Member) → k < n → (get_or hs k d).serial < from) → length hs ≤ n → Leaps rows (turns_at P t a) (λ j. Meets P t b j → ⊥) from Over
  leap_over low l j i le meets =
      let g = c.each j i meets in
      let r = hit_number hs g.0 g.1 in
      let m = r.1 in
      none_low low g.0 j g.2 le r.0 r.2 (omega arith)
