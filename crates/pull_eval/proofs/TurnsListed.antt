-- The entries of a loop: the matches, each with each value of the operand at it.
use Rattle.std.proofs.Common.{◌≡◌, ℕ, ◌+◌, ◌<◌, ◌≤◌, Bool, true, List, [], ◌∷◌, ◌++◌, map, take, length, get_or, refl, sym, ◌∙◌, ap, subst, inl, inr, ◌⊎◌, arith, append-nil, append_assoc}
use Rattle.std.specs.Prelude.{slice_get}
use Rattle.std.specs.List.{filter}
use Rattle.std.proofs.lemmas.List.{take_all}
use Rattle.gcx_base.specs.declared.steps.Step.{Step}
use Rattle.gcx_model.specs.Tree.{Node, serial_of, Tree, is_closed}
use Rattle.gcx_model.specs.Paths.{matches, value}
use Rattle.gcx_model.specs.Members.{In}
use Rattle.base_laws.proofs.Members.{in_map, from_map, filter_all}
use Rattle.tree_laws.proofs.Lists.{In-append, In-left, In-right, In-filter, In-kept}
use Rattle.tree_laws.proofs.Freeze.{closed_below, hits_within}
use Rattle.tree_laws.proofs.Matches.{Grown, Matches-in}
use Rattle.move_laws.specs.Kept.{only}
use Rattle.move_laws.proofs.Keeping.{matches_kept}
use Rattle.pass_laws.specs.ValueLists.{IsValueAt}
use Rattle.buf_tree.specs.Shape.{Cell}
use Rattle.cond_eval.specs.Asking.{PlacedAt}
use Rattle.cond_eval.specs.Reads.{NodeAt, AreNodes, IsValue}
use Rattle.cond_eval.specs.Comparing.{AreClosed, AreInUse, IsNodeRow, KeepsMatches, Readable}
use Rattle.cond_eval.specs.declared.sets.Member.{Member}
use Rattle.cond_eval.proofs.Comparisons.{closed_read, read_at, same_length, turn}
use Rattle.cond_eval.proofs.Rows.{grown_tree, kept_at, node_at, node_for}
use Rattle.pull_eval.specs.declared.turns.Entry.{Entry}
use Rattle.pull_eval.specs.Turns.{AreListed, IsFirstHit, IsHit}
use Rattle.pull_eval.specs.Listing.{AreNodeRows, AreRead, ListsAll, PutsEntries, entry_at}

map-last : {X Y : Type 0} (f : X → Y) (xs : List X) (y : X) → map f (xs ++ y ∷ []) ≡ map f xs ++ f y ∷ []
map-last f [] y = refl
map-last f (x ∷ xs) y = ap (λ l. f x ∷ l) (map-last f xs y)

-- ---- the values at one match

-- the texts are the values of the first members
abbrev pub ValuesOf : List Cell → List Member → (seen : ℕ) → List (List ℕ) → Type 0
ValuesOf rows ms i vs = (P : Tree) (keep : Node → Bool) (ns : List Node) → Readable rows P keep ms ns → vs ≡ map (value P) (take i ns)

-- those are put at the match
pub record PutsFirst (rows : List Cell) (set : List Member) (h : Member) (before now : List Entry) (i : ℕ) : Type 0 where
  pub texts : List (List ℕ)
  pub values : ValuesOf rows set i texts
  pub put : now ≡ before ++ map (entry_at h) texts

module _ (rows : List Cell) (set : List Member) (h : Member) (before : List Entry) where
  pub puts_none : PutsFirst rows set h before before 0
  puts_none = record { texts = []; values = λ P keep ns r. refl; put = sym (append-nil before) }

  pub puts_more : (now after : List Entry) (i : ℕ) (d : Member) (v : List ℕ) → i < length set → IsValue rows (get_or set i d).place v → after ≡ now ++ entry_at h v ∷ [] → PutsFirst rows set h before now i → PutsFirst rows set h before after (i + 1)
  puts_more now after i d v l is e p = record {
    texts = p.texts ++ v ∷ [];
    values = λ P keep ns r.
        let t = read_at rows P keep set ns i d r l in
        let n = t.turn.node in
        ap (λ (vs : List (List ℕ)). vs ++ v ∷ []) (p.values P keep ns r)
        ∙ (ap (λ (w : List ℕ). map (value P) (take i ns) ++ w ∷ []) (is P keep n t.at t.whole)
        ∙ (sym (map-last (value P) (take i ns) n) ∙ sym (ap (map (value P)) t.turn.taken)));
    put = e ∙ (ap (λ (es : List Entry). es ++ entry_at h v ∷ []) p.put
        ∙ (append_assoc before (map (entry_at h) p.texts) (entry_at h v ∷ []) ∙ ap (λ (es : List Entry). before ++ es) (sym (map-last (entry_at h) p.texts v))));
  }

  pub puts_all : (now : List Entry) (i : ℕ) → length set ≤ i → PutsFirst rows set h before now i → PutsEntries rows set h before now
  puts_all now i l p = record {
    texts = p.texts;
    values = λ P keep ns r. let same = same_length set ns r.nodes.serials in p.values P keep ns r ∙ ap (map (value P)) (take_all i ns (omega arith));
    put = p.put;
  }

-- ---- the entries at one match

-- the matches of a closed node are closed
pub match_closed : (P : Tree) → Grown P → (n m : Node) (steps : List Step) → is_closed P n ≡ true → In m (matches P (serial_of n) steps) → is_closed P m ≡ true
match_closed P grown n m steps c i = let q = Matches-in P (serial_of n) steps m i in closed_below P grown n m q.0 (hits_within (serial_of n) steps m q.1) c

-- the entries so far are those of the first matches
abbrev pub ListsFirst : List Cell → List Step → List Member → (seen : ℕ) → List Entry → Type 0
ListsFirst rows steps hs i es = (P : Tree) (keep : Node → Bool) (ms : List Node) → AreRead rows P keep steps hs ms → AreListed rows P steps (take i ms) es

pub lists_none : (rows : List Cell) (steps : List Step) (hs : List Member) (es : List Entry) → es ≡ [] → ListsFirst rows steps hs 0 es
lists_none rows steps hs es e P keep ms r = record {
  each = λ j i. absurd i;
  only = λ x i. absurd (subst (λ (z : List Entry). In x z) e i);
}

-- one match more
module _ (rows : List Cell) (steps : List Step) (set : List Member) (h : Member) (P : Tree) (keep : Node → Bool) (j : Node) (at : NodeAt rows P keep h.place j) (closed : is_closed P j ≡ true) (kept : KeepsMatches P keep j steps) where
  abbrev ns : List Node
  ns = filter (is_closed P) (matches P (serial_of j) steps)

  value_in : (v : List ℕ) → IsValueAt P j steps v → In v (map (value P) ns)
  value_in v (m, i, e) =
      let c = match_closed P (grown_tree rows P keep at.rows_of) j m steps closed i in
      subst (λ (w : List ℕ). In w (map (value P) ns)) e (in_map (value P) m ns (In-kept (is_closed P) m (matches P (serial_of j) steps) i c))

  value_from : (v : List ℕ) → In v (map (value P) ns) → IsValueAt P j steps v
  value_from v i = let m = from_map (value P) v ns i in (m.0, (In-filter (is_closed P) m.0 (matches P (serial_of j) steps) m.1).0, m.2)

  listed_more : AreClosed rows h.place steps set → (es now : List Entry) → PutsEntries rows set h es now → (ms : List Node) → IsHit rows h j → AreListed rows P steps ms es → AreListed rows P steps (ms ++ j ∷ []) now
  listed_more are es now p ms hit old = record { each = each; only = λ x i. only_one x (In-append x es more (subst (λ (z : List Entry). In x z) p.put i)) }
    where
      more : List Entry
      more = map (entry_at h) p.texts

      texts : p.texts ≡ map (value P) ns
      texts = p.values P keep ns (closed_read rows h.place steps set are P keep j at kept)

      each : (k : Node) → In k (ms ++ j ∷ []) → (v : List ℕ) → IsValueAt P k steps v → (e : Entry) × In e now × (e.text ≡ v) × IsHit rows e.hit k
      each k i v w = elim (In-append k ms (j ∷ []) i) [
        | inl a ↦ (let e = old.each k a v w in (e.0, subst (λ (z : List Entry). In e.0 z) (sym p.put) (In-left e.0 es more e.1), e.2, e.3))
        | inr (inl a) ↦ (
            let u = value_in v (subst (λ (z : Node). IsValueAt P z steps v) (sym a) w) in
            let m = in_map (entry_at h) v p.texts (subst (λ (z : List (List ℕ)). In v z) (sym texts) u) in
            (entry_at h v, subst (λ (z : List Entry). In (entry_at h v) z) (sym p.put) (In-right (entry_at h v) es more m), refl, subst (λ (z : Node). IsHit rows h z) a hit))
        | inr (inr a) ↦ absurd a
      ]

      only_one : (x : Entry) → In x es ⊎ In x more → (k : Node) × In k (ms ++ j ∷ []) × IsHit rows x.hit k × IsValueAt P k steps x.text
      only_one x (inl a) = let r = old.only x a in (r.0, In-left r.0 ms (j ∷ []) r.1, r.2, r.3)
      only_one x (inr a) =
          let r = from_map (entry_at h) x p.texts a in
          let v = value_from r.0 (subst (λ (z : List (List ℕ)). In r.0 z) texts r.1) in
          (j, In-right j ms (j ∷ []) (inl refl), subst (λ (z : Entry). IsHit rows z.hit j) r.2 hit, subst (λ (z : Entry). IsValueAt P j steps z.text) r.2 v)

module _ (rows : List Cell) (steps : List Step) (hs : List Member) (i : ℕ) where
  pub lists_more : (d : Member) → i < length hs → (set : List Member) → AreClosed rows (get_or hs i d).place steps set → (es now : List Entry) → PutsEntries rows set (get_or hs i d) es now → ListsFirst rows steps hs i es → ListsFirst rows steps hs (i + 1) now
  lists_more d l set closed es now p on P keep ms r =
      let t = turn hs ms i d r.nodes.serials l in
      let h = get_or hs i d in
      let j = t.node in
      let in_tree = r.there j t.among in
      let placed = subst (λ (s : ℕ). PlacedAt rows s h.place) (sym t.same) (r.nodes.places h t.member) in
      let at = kept_at rows P keep r.rows_of j h.place in_tree.0 in_tree.1 placed in
      subst (λ (z : List Node). AreListed rows P steps z now) (sym t.taken)
      (listed_more rows steps set h P keep j at (r.closed j t.among) (r.kept j t.among) closed es now p (take i ms) (sym t.same, placed) (on P keep ms r))

  pub lists_all : (es : List Entry) → length hs ≤ i → ListsFirst rows steps hs i es → ListsAll rows steps hs es
  lists_all es l on P keep ms r =
      let same = same_length hs ms r.nodes.serials in
      subst (λ (z : List Node). AreListed rows P steps z es) (take_all i ms (omega arith)) (on P keep ms r)

-- ---- the matches of a closed node

-- rows that are there are those of nodes
pub used_rows : (rows : List Cell) (p : ℕ) → IsNodeRow rows p → (set : List Member) → AreInUse rows set → AreNodeRows rows set
used_rows rows p row set used h i =
    let u = used h i in
    let of = row.at.rows_of in
    let n = node_for rows row.tree row.keep of u.cell u.among in
    record { tree = row.tree; keep = row.keep; node = n.0; at = subst (λ (q : ℕ). NodeAt rows row.tree row.keep q n.0) u.place (node_at rows row.tree row.keep of u.cell n.0 u.among n.1) }

module _ (rows : List Cell) (p : ℕ) (path steps : List Step) (set : List Member) (are : AreClosed rows p path set) (P : Tree) (keep : Node → Bool) (a : Node) (at : NodeAt rows P keep p a) (closed : is_closed P a ≡ true)
    (kept : (j : Node) → In j (matches P (serial_of a) path) → (keep j ≡ true) × KeepsMatches P keep j steps) where
  abbrev ms : List Node
  ms = matches P (serial_of a) path

  shut : (j : Node) → In j ms → is_closed P j ≡ true
  shut j i = match_closed P (grown_tree rows P keep at.rows_of) a j path closed i

  all_nodes : AreNodes rows set ms
  all_nodes =
      let same : matches (only keep P) (serial_of a) path ≡ ms = matches_kept P keep (serial_of a) path (λ j i. (kept j i).0) in
      subst (λ (z : List Node). AreNodes rows set z) (ap (filter (is_closed P)) same ∙ filter_all (is_closed P) ms shut) (are P keep a at)

  pub matches_read : AreRead rows P keep steps set ms
  matches_read = record {
    rows_of = at.rows_of;
    nodes = all_nodes;
    there = λ j i. ((Matches-in P (serial_of a) path j i).0, (kept j i).0);
    closed = shut;
    kept = λ j i. (kept j i).1;
  }

  pub first_hit : IsFirstHit rows ms (slice_get set 0)
  first_hit = go set ms all_nodes
    where
      go : (hs : List Member) (ns : List Node) → AreNodes rows hs ns → IsFirstHit rows ns (slice_get hs 0)
      go [] [] n = refl
      go [] (x ∷ ns) n = absurd (let e = n.serials in cc)
      go (h ∷ hs) [] n = absurd (let e = n.serials in cc)
      go (h ∷ hs) (x ∷ ns) n =
          let e = n.serials in
          let same : h.serial ≡ serial_of x = cc in
          (x, ns, refl, (same, subst (λ (s : ℕ). PlacedAt rows s h.place) same (n.places h (inl refl))))
