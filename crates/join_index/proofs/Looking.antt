-- Look-ups of the values of matches in a list, and what is known of those that were looked up.
use Rattle.std.proofs.Common.{◌≡◌, ℕ, Bool, true, false, cond, ltb, List, [], ◌∷◌, Option, Some, None, refl, sym, ◌∙◌, ap, subst, inl, inr}
use Rattle.std.specs.Prelude.{slice_set}
use Rattle.gcx_base.specs.declared.ids.Serial.{Serial}
use Rattle.gcx_base.specs.declared.steps.Step.{Step}
use Rattle.gcx_model.specs.Growth.{Leads}
use Rattle.gcx_model.specs.Tree.{Node, serial_of, Tree, opening}
use Rattle.gcx_model.specs.Paths.{matches, value}
use Rattle.gcx_model.specs.Members.{In}
use Rattle.tree_laws.proofs.Fed.{grown_from}
use Rattle.tree_laws.proofs.Matches.{Numbered-same}
use Rattle.node_store.specs.declared.store.Place.{Place}
use Rattle.buf_tree.specs.View.{View}
use Rattle.cond_eval.specs.Reads.{IsValue}
use Rattle.cond_memo.specs.Waiting.{Fits}
use Rattle.cond_memo.specs.Taking.{AsksPath, MayTake, TakesMore, TookUpto}
use Rattle.cond_memo.specs.declared.taken.Taken.{Taken}
use Rattle.cond_memo.proofs.Takings.{TakesOn, takes_this}
use Rattle.cond_memo.proofs.Untaken.{took_none}
use Rattle.join_index.specs.declared.equality.Listed.{Listed}
use Rattle.join_index.specs.declared.equality.Equality.{Equality}
use Rattle.join_index.specs.declared.equality.Side.{Side}
use Rattle.join_index.specs.Equalities.{inner_of}
use Rattle.join_index.specs.Index.{AreLooked, HasLooked, IsLooked, NoneListed}
use Rattle.join_index.specs.Lookups.{FindsIn, FoundIs, KeepsSeen, LookedUpto, LooksOn, MayFindIn, TurnsSeen}
use Rattle.join_index.proofs.Finding.{same_list}
use Rattle.join_index.proofs.Listing.{set_in}

-- ---- match by match

-- matches are taken whose values aren't in the list
abbrev pub Looks : View → (p : ℕ) → (list : List (List ℕ)) → (was now : Taken) → (next : Option Place) → Type 0
Looks v p list was now next = TakesOn v was now p (λ vs. NoneListed vs list) (λ vs. NoneListed vs list) next

pub none_more : (list : List (List ℕ)) (w : List ℕ) → (In w list → ⊥) → (vs : List (List ℕ)) → NoneListed vs list → NoneListed (w ∷ vs) list
none_more list w other vs none u i = elim i [
  | inl e ↦ λ j. other (subst (λ (z : List ℕ). In z list) (sym e) j)
  | inr j ↦ none u j
]

module _ (v : View) (p : ℕ) (list : List (List ℕ)) (was now : Taken) where
  pub looks_found : (q : Place) → Looks v p list was now (Some q) → (w : List ℕ) → IsValue v.rows q.0 w → In w list → LooksOn v p was now list true
  looks_found q looks w is i P keep n a h =
      let t = takes_this v was now p (λ vs. NoneListed vs list) (λ vs. NoneListed vs list) q looks w is P keep n h.values a h.took h.none in
      let m = t.3 in
      ((m.0, m.1, m.2, subst (λ (z : List ℕ). In z list) (sym m.3) i), record { values = t.0; took = t.2; none = t.1 })

  pub looks_over : Looks v p list was now None → LooksOn v p was now list false
  looks_over looks P keep n a h =
      let t = looks P keep n h.values a h.took h.none in
      (λ f. t.1 (value P f.0) (t.3 f.0 f.1 f.2) f.3, record { values = t.0; took = t.2; none = t.1 })

-- ---- the node

module _ (k : Taken) (P : Tree) (list : List (List ℕ)) (of : Serial) (about : k.of ≡ Some of) (n : Node) (i : In n P.nodes) (f : serial_of n ≡ of.0) where
  looked_upto : Leads opening P → HasLooked k P list → LookedUpto P (matches P (serial_of n) k.steps) k.waiting k.below list
  looked_upto lo h =
      let t = h.taken.told of about in
      let is : t.0 ≡ n = Numbered-same 0 P.nodes (grown_from P lo).numbered t.0 n t.1 i (t.2 ∙ sym f) in
      record {
        values = h.values;
        took = subst (λ (z : Node). TookUpto P (matches P (serial_of z) k.steps) k.waiting k.below h.values) is t.3;
        none = h.none;
      }

  has_looked : Fits k.steps k.last → LookedUpto P (matches P (serial_of n) k.steps) k.waiting k.below list → HasLooked k P list
  has_looked fits h = record {
    values = h.values;
    taken = record {
      fits = fits;
      none = λ e. let g : ◌≡◌ {A = Option Serial} None (Some of) = sym e ∙ about in absurd (cc);
      told = λ s e. let g : ◌≡◌ {A = Option Serial} (Some of) (Some s) = sym about ∙ e in let same : of ≡ s = cc in (n, i, f ∙ ap (λ (z : Serial). z.0) same, h.took);
    };
    none = h.none;
  }

module _ (k l : Taken) (of : Serial) (turned : TurnsSeen k l of) where
  pub turned_steps : l.steps ≡ k.steps
  turned_steps = elim turned [ inl e ↦ ap (λ (z : Taken). z.steps) e.0 | inr e ↦ ap (λ (z : Taken). z.steps) e ]

  pub turned_last : l.last ≡ k.last
  turned_last = elim turned [ inl e ↦ ap (λ (z : Taken). z.last) e.0 | inr e ↦ ap (λ (z : Taken). z.last) e ]

  turned_of : l.of ≡ Some of
  turned_of = elim turned [ inl e ↦ ap (λ (z : Taken). z.of) e.0 ∙ e.1 | inr e ↦ ap (λ (z : Taken). z.of) e ]

  -- what was looked up of the node, or nothing
  turned_looked : (P : Tree) (list : List (List ℕ)) → HasLooked k P list → Leads opening P → (n : Node) → In n P.nodes → serial_of n ≡ of.0 → LookedUpto P (matches P (serial_of n) k.steps) l.waiting l.below list
  turned_looked P list h lo n i f = elim turned [
    | inl e ↦ subst (λ (z : Taken). LookedUpto P (matches P (serial_of n) k.steps) z.waiting z.below list) (sym e.0) (looked_upto k P list of e.1 n i f lo h)
    | inr e ↦
        subst (λ (z : Taken). LookedUpto P (matches P (serial_of n) k.steps) z.waiting z.below list) (sym e) (record { values = []; took = took_none P (matches P (serial_of n) k.steps); none = λ u j. absurd j })
  ]

-- ---- the equality

abbrev inner_side : Side → Side → Side
inner_side a b = cond (ltb a.var.0 b.var.0) b a

-- the list was made anew, or it is as it was
pub kept_looked : (q r : Equality) → r.left ≡ q.left → r.right ≡ q.right → KeepsSeen q r → (P : Tree) → IsLooked q P → IsLooked r P
kept_looked q r left right k P is = elim k.looked [
  | inl e ↦ subst (λ (z : Equality). IsLooked z P) (sym e) is
  | inr none ↦ record {
    steps = k.steps ∙ (is.steps ∙ inner_same);
    fits = fits;
    told = λ l e. record {
      values = [];
      taken = record {
        fits = fits;
        none = λ f. refl;
        told = λ s f. let g : ◌≡◌ {A = Option Serial} None (Some s) = sym none ∙ f in absurd (cc);
      };
      none = λ u i. absurd i;
    };
  }
]
  where
    inner_same : (inner_of q).steps ≡ (inner_of r).steps
    inner_same = ap (λ (z : Side). (inner_side z q.right).steps) (sym left) ∙ ap (λ (z : Side). (inner_side r.left z).steps) (sym right)

    fits : Fits r.seen.steps r.seen.last
    fits = subst (λ (s : List Step). Fits s r.seen.last) (sym k.steps) (subst (Fits q.seen.steps) (sym k.last) is.fits)

pub set_looked : (qs : List Equality) (i : ℕ) (r : Equality) (P : Tree) → AreLooked qs P → IsLooked r P → AreLooked (slice_set qs i r) P
set_looked qs i r P all is p k = elim (set_in qs i r p k) [
  | inl s ↦ subst (λ (z : Equality). IsLooked z P) s is
  | inr j ↦ all p j
]

-- where no list is kept nothing is told
pub no_list : (v : View) (p of : ℕ) (q r : Equality) (b : Bool) → q.list ≡ None → FindsIn v p of q r b
no_list v p of q r b none P keep n a f is l e = let g : ◌≡◌ {A = Option Listed} None (Some l) = sym none ∙ e in absurd (cc)

module _ (v : View) (p : ℕ) (of : Serial) (q : Equality) (list : Listed) (kept : q.list ≡ Some list) (k : Taken) (turned : TurnsSeen q.seen k of) where
  now_upto : (P : Tree) (keep : Node → Bool) (n : Node) → AsksPath v p q.seen.steps P keep n → serial_of n ≡ of.0 → IsLooked q P → LookedUpto P (matches P (serial_of n) q.seen.steps) k.waiting k.below list.values
  now_upto P keep n a f is = turned_looked q.seen k of turned P list.values (is.told list kept) a.at.rows_of.grown n a.at.among f

  -- the matches may be looked up
  pub may_look : MayFindIn v p of.0 q → MayTake v k p
  may_look m =
      let h = now_upto m.tree m.keep m.node m.asks m.serial m.looked in
      let steps = sym (turned_steps q.seen k of turned) in
      record {
        tree = m.tree;
        keep = m.keep;
        node = m.node;
        values = h.values;
        asks = subst (λ (s : List Step). AsksPath v p s m.tree m.keep m.node) steps m.asks;
        took = subst (λ (s : List Step). TookUpto m.tree (matches m.tree (serial_of m.node) s) k.waiting k.below h.values) steps h.took;
      }

  pub fits_look : MayFindIn v p of.0 q → Fits k.steps k.last
  fits_look m =
      subst (λ (s : List Step). Fits s k.last) (sym (turned_steps q.seen k of turned)) (subst (Fits q.seen.steps) (sym (turned_last q.seen k of turned)) m.looked.fits)

  -- the look-ups tell it
  module _ (now : Taken) (same : TakesMore k now) (b : Bool) (told : LooksOn v p k now list.values b) where
    now_steps : now.steps ≡ q.seen.steps
    now_steps = ap (λ (z : Taken). z.steps) same ∙ turned_steps q.seen k of turned

    now_last : now.last ≡ q.seen.last
    now_last = ap (λ (z : Taken). z.last) same ∙ turned_last q.seen k of turned

    now_of : now.of ≡ Some of
    now_of = ap (λ (z : Taken). z.of) same ∙ turned_of q.seen k of turned

    -- what is told, by the steps
    abbrev LooksBy : List Step → Type 0
    LooksBy s = (P : Tree) (keep : Node → Bool) (n : Node) → AsksPath v p s P keep n → LookedUpto P (matches P (serial_of n) s) k.waiting k.below list.values
        → FoundIs P n s list.values b × LookedUpto P (matches P (serial_of n) s) now.waiting now.below list.values

    told_by : LooksBy q.seen.steps
    told_by = subst LooksBy (turned_steps q.seen k of turned) told

    module _ (P : Tree) (keep : Node → Bool) (n : Node) (a : AsksPath v p q.seen.steps P keep n) (f : serial_of n ≡ of.0) (is : IsLooked q P) where
      tells : FoundIs P n q.seen.steps list.values b × LookedUpto P (matches P (serial_of n) q.seen.steps) now.waiting now.below list.values
      tells = told_by P keep n a (now_upto P keep n a f is)

      fits : Fits now.steps now.last
      fits = subst (λ (s : List Step). Fits s now.last) (sym now_steps) (subst (Fits q.seen.steps) (sym now_last) is.fits)

      has : HasLooked now P list.values
      has = has_looked now P list.values of now_of n a.at.among f fits (subst (λ (s : List Step). LookedUpto P (matches P (serial_of n) s) now.waiting now.below list.values) (sym now_steps) tells.1)

      stands : IsLooked (record q { seen = now }) P
      stands = record {
        steps = now_steps ∙ is.steps;
        fits = fits;
        told = λ l e. subst (λ (z : Listed). HasLooked now P z.values) (same_list q.list list l kept e) has;
      }

    pub found_so : FindsIn v p of.0 q (record q { seen = now }) b
    found_so P keep n a f is l e = (subst (λ (z : Listed). FoundIs P n q.seen.steps z.values b) (same_list q.list list l kept e) (tells P keep n a f is).0, stands P keep n a f is)
