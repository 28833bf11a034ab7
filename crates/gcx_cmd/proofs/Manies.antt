-- The files of `many`, opened and made one after the other.
use Rattle.std.proofs.Common.{◌≡◌, ◌≢◌, ◌∙◌, ◌⊎◌, inl, inr, ℕ, zero, suc, ◌+◌, ◌<◌, ◌≤◌, true, List, [], ◌∷◌, ◌++◌, length, map, take, drop, get_or, slice_get, Ok, Err, Option, Some, None, refl, sym, ap, subst, arith}
use Rattle.std.proofs.lemmas.List.{length_push}
use Rattle.gcx_io.specs.Calls.{Creates, GivesHandle, fresh}
use Rattle.gcx_io.specs.Shelf.{IsMissing, Maps, Names, content_of}
use Rattle.gcx_io.specs.Views.{HandleView, Miss, ShelfView, missed}
use Rattle.gcx_io.specs.declared.fault.AttachFault.{AttachFault}
use Rattle.gcx_io.specs.declared.fault.AttachFault.TheVariants as fault
use Rattle.gcx_io.specs.declared.shelf.Handle.{Handle}
use Rattle.gcx_model.specs.Members.{In}
use Rattle.gcx_model.specs.PlanView.{plan_tree}
use Rattle.gcx_model.specs.Query.{ExprTree}
use Rattle.gcx_model.specs.declared.plan.Plan.{Plan}
use Rattle.gcx_words.specs.declared.pairs.Pair.{Pair}
use Rattle.gcx_words.specs.Pairs.{are_apart}
use Rattle.gcx_words.proofs.Apart.{apart_document, apart_others}
use Rattle.many_run.specs.Each.{AtEach, OfEach}
use Rattle.many_run.specs.Files.{HandlesApart, NamesStay, name_of_handle}
use Rattle.many_run.proofs.Filing.{name_is, names_on, names_same}
use Rattle.many_run.proofs.Walking.{not_there, there}
use Rattle.gcx_cmd.proofs.Along.{keeps_on, keeps_same, rose_since}
use Rattle.gcx_cmd.proofs.Lists.{slice_get_before, slice_get_push}
use Rattle.gcx_cmd.specs.ManyDoes.{AcceptsPlans, AcceptsQueries, CausesAny, FailsAtOut, MakesOut, MakesOuts, StopsAtQuery, StopsInOuts, StopsInQueries, create_status}
use Rattle.gcx_cmd.specs.QueryDoes.{AcceptsQuery, StopsInQuery}
use Rattle.gcx_cmd.specs.Reads.{CausesFault, KeepsShelf, Opens}
use Rattle.gcx_cmd.specs.Running.{IsPlanOf}
use Rattle.gcx_cmd.specs.declared.status.Status.{Status}
use Rattle.gcx_cmd.specs.declared.status.Status.TheVariants as status

-- ---- one more at the end

pub accepts_on : (ps : List Pair) (p : Pair) (xs : List (List ExprTree)) (x : List ExprTree) (a m b : ShelfView) → AcceptsQueries ps a m xs → Opens 1 m b → AcceptsQuery p.query m b x → KeepsShelf m b
    → AcceptsQueries (ps ++ p ∷ []) a b (xs ++ x ∷ [])
accepts_on [] p [] x a m b same one accepted k = subst (λ (s : ShelfView). AcceptsQueries (p ∷ []) s b (x ∷ [])) same (b, one, accepted, k, refl)
accepts_on [] p (y ∷ ys) x a m b never one accepted k = absurd never
accepts_on (q ∷ qs) p [] x a m b never one accepted k = absurd never
accepts_on (q ∷ qs) p (y ∷ ys) x a m b (n, first, query, kept, rest) one accepted k = (n, first, query, kept, accepts_on qs p ys x n m b rest one accepted k)

pub makes_on : (ps : List Pair) (p : Pair) (os : List Handle) (o : Handle) (a m b : ShelfView) → MakesOuts ps a m os → MakesOut p.out m b o → MakesOuts (ps ++ p ∷ []) a b (os ++ o ∷ [])
makes_on [] p [] o a m b same made = subst (λ (s : ShelfView). MakesOuts (p ∷ []) s b (o ∷ [])) same (b, made, refl)
makes_on [] p (n ∷ os) o a m b never made = absurd never
makes_on (q ∷ qs) p [] o a m b never made = absurd never
makes_on (q ∷ qs) p (n ∷ os) o a m b (s, first, rest) made = (s, first, makes_on qs p os o s m b rest made)

-- ---- what stays of the shelf while QUERYs are read

pub queries_keep : (ps : List Pair) (xs : List (List ExprTree)) (a b : ShelfView) → AcceptsQueries ps a b xs → KeepsShelf a b × (length a.given ≤ length b.given)
queries_keep [] [] a b same = (subst (λ (s : ShelfView). KeepsShelf a s) (sym same) (keeps_same a), let n = ap (λ (s : ShelfView). length s.given) same in omega (arith, n))
queries_keep [] (x ∷ xs) a b never = absurd never
queries_keep (p ∷ ps) [] a b never = absurd never
queries_keep (p ∷ ps) (x ∷ xs) a b (m, one, accepted, k, rest) =
    let r = queries_keep ps xs m b rest in
    let n = one.count in
    let l = r.1 in
    (keeps_on a m b k r.0 (omega (arith, n)), omega (arith, n, l))

-- no attach of them failed
pub queries_refuse : (ps : List Pair) (xs : List (List ExprTree)) (a b : ShelfView) → AcceptsQueries ps a b xs → b.refused ≡ a.refused
queries_refuse [] [] a b same = ap (λ (s : ShelfView). s.refused) same
queries_refuse [] (x ∷ xs) a b never = absurd never
queries_refuse (p ∷ ps) [] a b never = absurd never
queries_refuse (p ∷ ps) (x ∷ xs) a b (m, one, accepted, k, rest) = queries_refuse ps xs m b rest ∙ one.refused

-- there is a query for each QUERY
pub queries_count : (ps : List Pair) (xs : List (List ExprTree)) (a b : ShelfView) → AcceptsQueries ps a b xs → length xs ≡ length ps
queries_count [] [] a b same = refl
queries_count [] (x ∷ xs) a b never = absurd never
queries_count (p ∷ ps) [] a b never = absurd never
queries_count (p ∷ ps) (x ∷ xs) a b (m, one, accepted, k, rest) = ap suc (queries_count ps xs m b rest)

-- ---- what is of the OUTs

pub record MadeOuts (ps : List Pair) (a b : ShelfView) (os : List Handle) : Type 0 where
  pub count : length os ≡ length ps
  pub given : length b.given ≡ length a.given + length ps
  pub numbers : (i : ℕ) (o : Handle) → slice_get os i ≡ Some o → o.0 ≡ length a.given + i
  pub named : (i : ℕ) (p : Pair) (o : Handle) → slice_get ps i ≡ Some p → slice_get os i ≡ Some o → name_of_handle b.given o.0 ≡ Some p.out
  pub before : (k : ℕ) → k < length a.given → slice_get b.given k ≡ slice_get a.given k
  pub refused : b.refused ≡ a.refused
  pub faults : b.faults ≡ a.faults
  pub write_faults : b.write_faults ≡ a.write_faults
  pub names : NamesStay (λ name. In name (map (λ p. p.out) ps) → ⊥) a.names b.names

-- the mapping of one name leaves the others
pub mapped : (name : List ℕ) (P : List ℕ → Type 0) (a b : Names) → ((other : List ℕ) → P other → other ≢ name) → Maps a b name [] → NamesStay P a b
mapped name P None None apart maps = tt
mapped name P None (Some y) apart maps = absurd maps
mapped name P (Some x) None apart maps = tt
mapped name P (Some x) (Some y) apart maps = (λ n none. sym (maps.1 n (λ same. missing (y n) (y name) (ap y same) none maps.0)) ∙ none, λ n other. maps.1 n (apart n other))
  where
    missing : (o p : Option (List ℕ)) → o ≡ p → o ≡ None → p ≡ Some [] → ⊥
    missing o p same none some = cc

some_one : {X : Type 0} (x y : X) → Some x ≡ Some y → x ≡ y
some_one x y same = cc

pub made_outs : (ps : List Pair) (os : List Handle) (a b : ShelfView) → MakesOuts ps a b os → MadeOuts ps a b os
made_outs [] [] a b same = subst (λ (s : ShelfView). MadeOuts [] a s []) (sym same) (record {
  count = refl;
  given = omega arith;
  numbers = λ i o at. absurd (cc);
  named = λ i p o is_p at. absurd (cc);
  before = λ k few. refl;
  refused = refl;
  faults = refl;
  write_faults = refl;
  names = names_same (λ name. In name [] → ⊥) a.names;
})
made_outs [] (o ∷ os) a b never = absurd never
made_outs (p ∷ ps) [] a b never = absurd never
made_outs (p ∷ ps) (o ∷ os) a b (m, first, rest) =
    let r = made_outs ps os m b rest in
    let gives : GivesHandle p.out (content_of m.names p.out) a m o.0 = first.0 in
    let one : length m.given ≡ length a.given + 1 = ap length gives.given ∙ length_push a.given (fresh p.out (content_of m.names p.out)) in
    record {
      count = ap suc r.count;
      given = let l = r.given in omega (arith, l, one);
      numbers = numbers_of gives r one;
      named = named_of gives r one;
      before = λ k few. r.before k (omega (arith, few, one))
          ∙ (ap (λ (l : List HandleView). slice_get l k) gives.given ∙ slice_get_before a.given (fresh p.out (content_of m.names p.out)) k few);
      refused = r.refused ∙ gives.refused;
      faults = r.faults ∙ gives.faults;
      write_faults = r.write_faults ∙ gives.write_faults;
      names = names_on (λ name. In name (map (λ q. q.out) (p ∷ ps)) → ⊥) (λ name. In name (map (λ q. q.out) ps) → ⊥) (λ name. In name (map (λ q. q.out) (p ∷ ps)) → ⊥) a.names m.names b.names
          (λ name other. (other, λ among. other (inr among)))
          (mapped p.out (λ name. In name (map (λ q. q.out) (p ∷ ps)) → ⊥) a.names m.names (λ name other same. other (inl (sym same))) first.1) r.names;
    }
  where
    numbers_of : GivesHandle p.out (content_of m.names p.out) a m o.0 → MadeOuts ps m b os → length m.given ≡ length a.given + 1 → (i : ℕ) (h : Handle) → slice_get (o ∷ os) i ≡ Some h → h.0 ≡ length a.given + i
    numbers_of gives r one zero h at = let n = gives.number in let e : o.0 ≡ h.0 = ap (λ (x : Handle). x.0) (some_one o h at) in omega (arith, n, e)
    numbers_of gives r one (suc i) h at = let n = r.numbers i h at in omega (arith, n, one)

    named_of : GivesHandle p.out (content_of m.names p.out) a m o.0 → MadeOuts ps m b os → length m.given ≡ length a.given + 1
        → (i : ℕ) (q : Pair) (h : Handle) → slice_get (p ∷ ps) i ≡ Some q → slice_get (o ∷ os) i ≡ Some h → name_of_handle b.given h.0 ≡ Some q.out
    named_of gives r one zero q h is_q at =
        let n = gives.number in
        let e : o.0 ≡ h.0 = ap (λ (x : Handle). x.0) (some_one o h at) in
        let made : slice_get m.given o.0 ≡ Some (fresh p.out (content_of m.names p.out))
        = ap (λ (l : List HandleView). slice_get l o.0) gives.given ∙ (ap (λ (k : ℕ). slice_get (a.given ++ fresh p.out (content_of m.names p.out) ∷ []) k) n ∙ slice_get_push a.given (fresh p.out (content_of m.names p.out))) in
        let then : slice_get b.given o.0 ≡ Some (fresh p.out (content_of m.names p.out)) = r.before o.0 (omega (arith, n, one)) ∙ made in
        ap (λ (k : ℕ). name_of_handle b.given k) (sym e) ∙ (name_is b.given o.0 (fresh p.out (content_of m.names p.out)) then ∙ ap (λ (x : Pair). Some x.out) (some_one p q is_q))
    named_of gives r one (suc i) q h is_q at = r.named i q h is_q at

-- ---- the handles are apart

module _ (d : List ℕ) (ps : List Pair) (apart : are_apart d ps ≡ true) (os : List Handle) (a made begun : ShelfView) (makes : MakesOuts ps a made os) (doc : Handle) (opens : GivesHandle d (content_of made.names d) made begun doc.0) where
  outs : MadeOuts ps a made os
  outs = made_outs ps os a made makes

  pub doc_there : slice_get begun.given doc.0 ≡ Some (fresh d (content_of made.names d))
  doc_there = ap (λ (l : List HandleView). slice_get l doc.0) opens.given ∙ (ap (λ (k : ℕ). slice_get (made.given ++ fresh d (content_of made.names d) ∷ []) k) opens.number ∙ slice_get_push made.given (fresh d (content_of made.names d)))

  more : length begun.given ≡ length made.given + 1
  more = ap length opens.given ∙ length_push made.given (fresh d (content_of made.names d))

  pair_of : (i : ℕ) (o : Handle) → slice_get os i ≡ Some o → (p : Pair) × (slice_get ps i ≡ Some p)
  pair_of i o at = there ps i (let l = not_there os i o at in let n = outs.count in omega (arith, l, n))

  below : (i : ℕ) (o : Handle) → slice_get os i ≡ Some o → o.0 < length made.given
  below i o at = let l = not_there os i o at in let n = outs.count in let m = outs.given in let k = outs.numbers i o at in omega (arith, l, n, m, k)

  name_at : (i : ℕ) (o : Handle) (at : slice_get os i ≡ Some o) → name_of_handle begun.given o.0 ≡ Some (pair_of i o at).0.out
  name_at i o at =
      let v = there made.given o.0 (below i o at) in
      let then : slice_get begun.given o.0 ≡ Some v.0 = ap (λ (l : List HandleView). slice_get l o.0) opens.given ∙ (slice_get_before made.given (fresh d (content_of made.names d)) o.0 (below i o at) ∙ v.1) in
      name_is begun.given o.0 v.0 then ∙ (sym (name_is made.given o.0 v.0 v.1) ∙ outs.named i (pair_of i o at).0 o (pair_of i o at).1 at)

  pub outs_named : (i : ℕ) (o : Handle) → slice_get os i ≡ Some o → (p : Pair) × (slice_get ps i ≡ Some p) × (name_of_handle begun.given o.0 ≡ Some p.out)
  outs_named i o at = let p = pair_of i o at in (p.0, p.1, name_at i o at)

  one_name : (x y : List ℕ) → Some x ≡ Some y → x ≡ y
  one_name x y same = cc

  pub handles_apart : HandlesApart begun doc os
  handles_apart = record {
    doc_given = let n = opens.number in omega (arith, n, more);
    given = λ i o at. let l = below i o at in omega (arith, l, more);
    from_doc = λ i o at. (
      (λ same. let l = below i o at in let n = opens.number in absurd (omega (arith, l, n, same))),
      λ telling same. apart_document d ps apart i (pair_of i o at).0 (pair_of i o at).1 (one_name (pair_of i o at).0.out d (sym (name_at i o at) ∙ (same ∙ name_is begun.given doc.0 (fresh d (content_of made.names d)) doc_there))),
    );
    from_others = λ i j o p is_o is_p other. (
      (λ same. other (let m = outs.numbers i o is_o in let n = outs.numbers j p is_p in omega (arith, m, n, same))),
      λ telling same. apart_others d ps apart i j (pair_of i o is_o).0 (pair_of j p is_p).0 (pair_of i o is_o).1 (pair_of j p is_p).1 other
          (one_name (pair_of i o is_o).0.out (pair_of j p is_p).0.out (sym (name_at i o is_o) ∙ (same ∙ name_at j p is_p))),
    );
  }

-- ---- the plans of QUERYs, one after the other

-- what is said of each of none
pub each_none : {X : Type 0} (P : X → Type 0) (xs : List X) → xs ≡ [] → OfEach P xs
each_none P [] none i x at = absurd (cc)
each_none P (y ∷ ys) none i x at = absurd (cc)

pub accepts_plans_none : (a : ShelfView) → AcceptsPlans [] a a []
accepts_plans_none a = record { xs = []; accepts = refl; plans_are = record { count = refl; each = λ i x plan is_x is_plan. absurd (cc) } }

get_last : {X : Type 0} (xs : List X) (x y : X) (i : ℕ) → slice_get (xs ++ x ∷ []) i ≡ Some y → (slice_get xs i ≡ Some y) ⊎ ((i ≡ length xs) × (x ≡ y))
get_last [] x y zero at = inr (refl, some_one x y at)
get_last [] x y (suc i) at = let no : ⊥ = cc in absurd no
get_last (z ∷ xs) x y zero at = inl at
get_last (z ∷ xs) x y (suc i) at = elim (get_last xs x y i at) [
  | inl before ↦ inl before
  | inr last ↦ inr (ap suc last.0, last.1)
]

each_last : {X Y : Type 0} (R : X → Y → Type 0) (xs : List X) (ys : List Y) (x : X) (y : Y) → AtEach R xs ys → R x y → AtEach R (xs ++ x ∷ []) (ys ++ y ∷ [])
each_last {X} {Y} R xs ys x y h one = record {
  count = let n = h.count in let l = length_push xs x in let m = length_push ys y in omega (arith, n, l, m);
  each = λ i p q is_p is_q. elim (get_last xs x p i is_p) [
    | inl before ↦ elim (get_last ys y q i is_q) [
      | inl also ↦ h.each i p q before also
      | inr last ↦ (let l = not_there xs i p before in let n = h.count in absurd (omega (arith, l, n, last.0)))
    ]
    | inr last ↦ elim (get_last ys y q i is_q) [
      | inl also ↦ (let l = not_there ys i q also in let n = h.count in absurd (omega (arith, l, n, last.0)))
      | inr same ↦ subst (λ (z : X). R z q) last.1 (subst (λ (z : Y). R x z) same.1 one)
    ]
  ];
}

pub accepts_plans_on : (ps : List Pair) (p : Pair) (a m b : ShelfView) (plans : List Plan) (x : List ExprTree) (plan : Plan) → AcceptsPlans ps a m plans → Opens 1 m b → AcceptsQuery p.query m b x → KeepsShelf m b
    → IsPlanOf x (plan_tree plan) → AcceptsPlans (ps ++ p ∷ []) a b (plans ++ plan ∷ [])
accepts_plans_on ps p a m b plans x plan h one accepted k is = record {
  xs = h.xs ++ x ∷ [];
  accepts = accepts_on ps p h.xs x a m b h.accepts one accepted k;
  plans_are = each_last (λ y pl. IsPlanOf y (plan_tree pl)) h.xs plans x plan h.plans_are is;
}

-- ---- a QUERY that isn't accepted

pub opened_more : (s : Status) (q : List ℕ) (a b : ShelfView) → StopsInQuery q s a b → length a.given ≤ length b.given
opened_more status.Ok q a b h = absurd h
opened_more status.Usage q a b h = absurd h
opened_more (status.QueryRefused f) q a b h = let n = h.opens.count in omega (arith, n)
opened_more (status.DocumentRefused f) q a b h = absurd h
opened_more status.ReadFault q a b (inl gone) = let n = gone.count in omega (arith, n)
opened_more status.ReadFault q a b (inr (one, ps, reads, within)) = let n = one.count in omega (arith, n)
opened_more status.WriteFault q a b h = absurd h
opened_more status.Memory q a b (inl none) = let n = none.count in omega (arith, n)
opened_more status.Memory q a b (inr (one, ps, stop, reads, calm)) = let n = one.count in omega (arith, n)
opened_more (status.TraceRefused n) q a b h = absurd h

module _ (ps : List Pair) (k : ℕ) (p : Pair) (l : k < length ps) (is : get_or ps k p ≡ p) where
  pub split_pairs : ps ≡ take k ps ++ p ∷ drop (suc k) ps
  split_pairs = subst (λ (z : Pair). ps ≡ take k ps ++ z ∷ drop (suc k) ps) is (parts ps k p l)
    where
      parts : (xs : List Pair) (i : ℕ) (d : Pair) → i < length xs → xs ≡ take i xs ++ get_or xs i d ∷ drop (suc i) xs
      parts [] i d few = absurd (omega (arith, few))
      parts (x ∷ xs) zero d few = refl
      parts (x ∷ xs) (suc i) d few = ap (λ (ys : List Pair). x ∷ ys) (parts xs i d (omega (arith, few)))

  module _ (a m : ShelfView) (plans : List Plan) (h : AcceptsPlans (take k ps) a m plans) where
    stop_here : (s : Status) (b : ShelfView) → StopsInQuery p.query s m b → KeepsShelf m b → StopsAtQuery ps s a b
    stop_here s b stops keeps = record { before = take k ps; pair = p; behind = drop (suc k) ps; split = split_pairs; xs = h.xs; m = m; accepted = h.accepts; stops = stops; keeps = keeps }

    pub stops_at_query : (s : Status) (b : ShelfView) → StopsInQuery p.query s m b → KeepsShelf m b → StopsInQueries ps s a b
    stops_at_query status.Ok b stops keeps = absurd stops
    stops_at_query status.Usage b stops keeps = absurd stops
    stops_at_query (status.QueryRefused f) b stops keeps = stop_here (status.QueryRefused f) b stops keeps
    stops_at_query (status.DocumentRefused f) b stops keeps = absurd stops
    stops_at_query status.ReadFault b stops keeps = stop_here status.ReadFault b stops keeps
    stops_at_query status.WriteFault b stops keeps = absurd stops
    stops_at_query status.Memory b stops keeps = inl (stop_here status.Memory b stops keeps)
    stops_at_query (status.TraceRefused n) b stops keeps = absurd stops

    -- its cause is one of a QUERY
    pub cause_among : (b : ShelfView) → CausesFault p.query m b → CausesAny (map (λ q. q.query) ps) a b
    cause_among b cause =
        let keeps = (queries_keep (take k ps) h.xs a m h.accepts).0 in
        (p.query, subst (λ (z : List Pair). In p.query (map (λ q. q.query) z)) (sym split_pairs) (among (take k ps)), earlier keeps cause)
      where
        among : (xs : List Pair) → In p.query (map (λ q. q.query) (xs ++ p ∷ drop (suc k) ps))
        among [] = inl refl
        among (x ∷ xs) = inr (among xs)

        earlier : KeepsShelf a m → CausesFault p.query m b → CausesFault p.query a b
        earlier keeps (inl rose) = inl (rose_since a.faults m.faults b.faults keeps.faults rose)
        earlier keeps (inr (missing, n, listed)) =
            inr (subst (λ (z : Names). IsMissing z p.query) keeps.names missing, n, listed ∙ ap (λ (z : List Miss). z ++ missed p.query n ∷ []) (queries_refuse (take k ps) h.xs a m h.accepts))

-- memory ran out behind some QUERYs
pub stops_between : (ps before behind : List Pair) (a b : ShelfView) (plans : List Plan) → ps ≡ before ++ behind → AcceptsPlans before a b plans → StopsInQueries ps status.Memory a b
stops_between ps before behind a b plans split h = inr (before, behind, split, inl (h.xs, h.accepts))

-- ---- an OUT that isn't made

module _ (ps : List Pair) (k : ℕ) (p : Pair) (l : k < length ps) (is : get_or ps k p ≡ p) where
  pub out_among : In p.out (map (λ q. q.out) ps)
  out_among = subst (λ (z : List Pair). In p.out (map (λ q. q.out) z)) (sym (split_pairs ps k p l is)) (among (take k ps))
    where
      among : (xs : List Pair) → In p.out (map (λ q. q.out) (xs ++ p ∷ drop (suc k) ps))
      among [] = inl refl
      among (x ∷ xs) = inr (among xs)

  pub fails_at_out : (a m : ShelfView) (os : List Handle) → MakesOuts (take k ps) a m os → (s : Status) (b : ShelfView) → (why : AttachFault) × (s ≡ create_status why) × Creates p.out m b (Err why) → StopsInOuts ps s a b
  fails_at_out a m os makes s b (fault.Failed, same, fails) = subst (λ (t : Status). StopsInOuts ps t a b) (sym same) (here fault.Failed fails)
    where
      here : (why : AttachFault) → Creates p.out m b (Err why) → FailsAtOut ps why a b
      here why gone = record { before = take k ps; pair = p; behind = drop (suc k) ps; split = split_pairs ps k p l is; outs = os; m = m; makes = makes; fails = gone }
  fails_at_out a m os makes s b (fault.Memory, same, fails) = subst (λ (t : Status). StopsInOuts ps t a b) (sym same) (inl (here fault.Memory fails))
    where
      here : (why : AttachFault) → Creates p.out m b (Err why) → FailsAtOut ps why a b
      here why gone = record { before = take k ps; pair = p; behind = drop (suc k) ps; split = split_pairs ps k p l is; outs = os; m = m; makes = makes; fails = gone }

-- no OUT is DOC
pub doc_is_none : (d : List ℕ) (ps : List Pair) → are_apart d ps ≡ true → In d (map (λ p. p.out) ps) → ⊥
doc_is_none d ps apart among = let f = found ps among in apart_document d ps apart f.0 f.1 f.2 f.3
  where
    found : (qs : List Pair) → In d (map (λ p. p.out) qs) → (i : ℕ) × (p : Pair) × (slice_get qs i ≡ Some p) × (p.out ≡ d)
    found [] never = absurd never
    found (q ∷ qs) (inl same) = (0, q, refl, same)
    found (q ∷ qs) (inr more) = let f = found qs more in (suc f.0, f.1, f.2, f.3)
