-- The relation Grow and the function grow; the tokens of an open tree; core states.
use Rattle.std.proofs.Common.{◌≡◌, ℕ, zero, suc, ◌-◌, ◌≤◌, true, false, not, List, [], ◌∷◌, ◌++◌, length, refl, sym, ◌∙◌, ap, subst, inl, inr, arith, append_assoc, Some, None, Option}
use Rattle.std.proofs.lemmas.List.{append-nil}
use Rattle.std.proofs.lemmas.Bool.{and_parts, and_from, false≢true, not-true}
use Rattle.std.specs.Prelude.{bytes_eq}
use Rattle.std.specs.Str.{chars}
use lib.Utf8.{encodes}
use Rattle.std.proofs.lemmas.Slice.Eq.{bytes_eq-Decides}
use Rattle.std.proofs.lemmas.Str.{encodes-chars}
use Rattle.std.proofs.lemmas.Option.{same_Some}
use Rattle.gcx_base.specs.Name.{is_name, IsNameBytes}
use Rattle.gcx_base.proofs.Names.{name_text, name_chars}
use Rattle.gcx_base.specs.declared.kind.Kind.{Kind}
use Rattle.gcx_base.specs.declared.kind.Kind.TheVariants.{Element, Text}
use Rattle.gcx_model.specs.Tree.{Node, Root, Under, above, Tree, TreeToken, Start, Chars, End, opening, grow, grow_at, grow_all}
use Rattle.gcx_model.specs.Members.{In}
use Rattle.gcx_model.specs.Growth.{has_root, Grow, opened, added, closed, ended, Leads, stays, more, may_come_at, may_come, may_all, is_name_bytes, level, ends, open_at, token_of, tokens_behind, tokens_from, tokens_of}

-- trees are known by their parts
pub tree_same : (P Q : Tree) → P.nodes ≡ Q.nodes → P.at ≡ Q.at → P ≡ Q
tree_same P Q e f = ap (λ z. record { nodes = z; at = P.at }) e ∙ ap (λ z. record { nodes = Q.nodes; at = z }) f

-- Grow is a token that may come

abbrev pub Fed : Tree → Tree → Type 0
Fed P Q = (t : TreeToken) × (may_come t P ≡ true) × (Q ≡ grow t P)

-- the test of a name
pub name_tested : (b : List ℕ) → IsNameBytes b → is_name_bytes b ≡ true
name_tested b h = and_from _ _ (name_chars b h) ((bytes_eq-Decides (encodes (chars b)) b).1 (encodes-chars b (name_text b h)))

pub tested_name : (b : List ℕ) → is_name_bytes b ≡ true → IsNameBytes b
tested_name b h = let q = and_parts (is_name (chars b)) (bytes_eq (encodes (chars b)) b) h in record { chars = chars b; name = q.0; parts = (bytes_eq-Decides (encodes (chars b)) b).0 q.1 }

start_comes : (p : Node) (name : List ℕ) (nodes : List Node) → IsNameBytes name → (p ≡ Root → has_root nodes ≡ false) → may_come_at (Some p) (Start name) nodes ≡ true
start_comes Root name nodes n h = and_from _ _ (name_tested name n) (ap not (h refl))
start_comes (Under p s k) name nodes n h = name_tested name n

pub fed_from : (P Q : Tree) → Grow P Q → Fed P Q
fed_from P Q (opened p name named at h n a) = (
  Start name,
  subst (λ (z : Option Node). may_come_at z (Start name) P.nodes ≡ true) (sym at) (start_comes p name P.nodes named h),
  tree_same Q (grow (Start name) P) (n ∙ sym (ap (λ (z : Option Node). (grow_at z (Start name) P).nodes) at)) (a ∙ sym (ap (λ (z : Option Node). (grow_at z (Start name) P).at) at)),
)
fed_from P Q (added p s k b at h g n a) = (
  Chars b,
  subst (λ (z : Option Node). may_come_at z (Chars b) P.nodes ≡ true) (sym at) (and_from _ _ (ap not h) (ap not g)),
  tree_same Q (grow (Chars b) P) (n ∙ sym (ap (λ (z : Option Node). (grow_at z (Chars b) P).nodes) at)) (a ∙ (at ∙ sym (ap (λ (z : Option Node). (grow_at z (Chars b) P).at) at))),
)
fed_from P Q (closed p s k at n a) = (
  End,
  subst (λ (z : Option Node). may_come_at z End P.nodes ≡ true) (sym at) refl,
  tree_same Q (grow End P) (n ∙ sym (ap (λ (z : Option Node). (grow_at z End P).nodes) at)) (a ∙ sym (ap (λ (z : Option Node). (grow_at z End P).at) at)),
)
fed_from P Q (ended at h n a) = (
  End,
  subst (λ (z : Option Node). may_come_at z End P.nodes ≡ true) (sym at) h,
  tree_same Q (grow End P) (n ∙ sym (ap (λ (z : Option Node). (grow_at z End P).nodes) at)) (a ∙ sym (ap (λ (z : Option Node). (grow_at z End P).at) at)),
)

pub grows_at : (at : Option Node) (t : TreeToken) (P : Tree) → P.at ≡ at → may_come_at at t P.nodes ≡ true → Grow P (grow_at at t P)
grows_at None t P e m = absurd (false≢true m)
grows_at (Some Root) (Start name) P e m = let a = and_parts (is_name_bytes name) (not (has_root P.nodes)) m in opened Root name (tested_name name a.0) e (λ r. not-true _ a.1) refl refl
grows_at (Some Root) (Chars b) P e m = absurd (false≢true m)
grows_at (Some Root) End P e m = ended e m refl refl
grows_at (Some (Under p s k)) (Start name) P e m = opened (Under p s k) name (tested_name name m) e (λ r. absurd (cc)) refl refl
grows_at (Some (Under p s k)) (Chars b) P e m = let a = and_parts _ _ m in added p s k b e (not-true _ a.0) (not-true _ a.1) refl (sym e)
grows_at (Some (Under p s k)) End P e m = closed p s k e refl refl

pub grows : (t : TreeToken) (P : Tree) → may_come t P ≡ true → Grow P (grow t P)
grows t P m = grows_at P.at t P refl m

pub grow_is : (P Q : Tree) → (Grow P Q → Fed P Q) × (Fed P Q → Grow P Q)
grow_is P Q = (fed_from P Q, λ h. subst (λ (z : Tree). Grow P z) (sym h.2) (grows h.0 P h.1))

-- and P <= Q is a list of tokens each of which may come

abbrev pub FedAll : Tree → Tree → Type 0
FedAll P Q = (ts : List TreeToken) × (may_all ts P ≡ true) × (Q ≡ grow_all ts P)

pub grow_all-append : (ts us : List TreeToken) (P : Tree) → grow_all (ts ++ us) P ≡ grow_all us (grow_all ts P)
grow_all-append [] us P = refl
grow_all-append (t ∷ ts) us P = grow_all-append ts us (grow t P)

pub may_all-append : (ts us : List TreeToken) (P : Tree) → may_all ts P ≡ true → may_all us (grow_all ts P) ≡ true → may_all (ts ++ us) P ≡ true
may_all-append [] us P h k = k
may_all-append (t ∷ ts) us P h k = let a = and_parts (may_come t P) (may_all ts (grow t P)) h in and_from _ _ a.0 (may_all-append ts us (grow t P) a.1 k)

pub fed_all : (P Q : Tree) → Leads P Q → FedAll P Q
fed_all P Q stays = ([], refl, refl)
fed_all P R (more {Q = Q} {R = R'} h g) =
    let a = fed_all P Q h in
    let b = fed_from Q R' g in
    let m : may_come b.0 (grow_all a.0 P) ≡ true = subst (λ (z : Tree). may_come b.0 z ≡ true) a.2 b.1 in
    (a.0 ++ b.0 ∷ [], may_all-append a.0 (b.0 ∷ []) P a.1 (and_from _ _ m refl), b.2 ∙ (ap (grow b.0) a.2 ∙ sym (grow_all-append a.0 (b.0 ∷ []) P)))

pub Leads-trans : (P Q R : Tree) → Leads P Q → Leads Q R → Leads P R
Leads-trans P Q R h stays = h
Leads-trans P Q R h (more k g) = more (Leads-trans P Q _ h k) g

pub leads : (ts : List TreeToken) (P : Tree) → may_all ts P ≡ true → Leads P (grow_all ts P)
leads [] P h = stays
leads (t ∷ ts) P h = let a = and_parts (may_come t P) (may_all ts (grow t P)) h in Leads-trans P (grow t P) _ (more stays (grows t P a.0)) (leads ts (grow t P) a.1)

pub leads_is : (P Q : Tree) → (Leads P Q → FedAll P Q) × (FedAll P Q → Leads P Q)
leads_is P Q = (fed_all P Q, λ h. subst (λ (z : Tree). Leads P z) (sym h.2) (leads h.0 P h.1))

-- The tokens of a tree are found again.

last_node : Node → List Node → Node
last_node r [] = r
last_node r (n ∷ ns) = last_node n ns

last_node-push : (r : Node) (ns : List Node) (n : Node) → last_node r (ns ++ n ∷ []) ≡ n
unfolding last_node
last_node-push r [] n = refl
last_node-push r (m ∷ ns) n = last_node-push m ns n

-- the first of the nodes; the innermost open node is above the one that was open behind the last one
abbrev Tail : Tree → Type 0
Tail P = (r : Node) × (ns : List Node) × (P.nodes ≡ r ∷ ns) × ((q : Node) → P.at ≡ Some q → In q (above (open_at (last_node r ns))))

above_self : (m : Node) → In m (above m)
above_self Root = inl refl
above_self (Under p s k) = inl refl

above_up : (p : Node) (s : ℕ) (k : Kind) (m : Node) → In (Under p s k) (above m) → In p (above m)
above_up p s k Root (inl e) = absurd (cc)
above_up p s k Root (inr h) = absurd h
above_up p s k (Under q t j) (inl e) = let f : q ≡ p = cc in inr (subst (λ (z : Node). In z (above q)) f (above_self q))
above_up p s k (Under q t j) (inr h) = inr (above_up p s k q h)

pub level_above : (m q : Node) → In q (above m) → level q ≤ level m
level_above Root q (inl e) = let f = ap level e in omega arith
level_above Root q (inr h) = absurd h
level_above (Under p s k) q (inl e) = let f = ap level e in omega arith
level_above (Under p s k) q (inr h) = let f = level_above p q h in omega arith

abbrev new_start : Node → Tree → List ℕ → Node
new_start p P name = Under p (length P.nodes) (Element name)

Tail-new : (P : Tree) (n : Node) (at : Option Node) → Tail P → ((q : Node) → at ≡ Some q → In q (above (open_at n))) → Tail (record { nodes = P.nodes ++ n ∷ []; at = at })
Tail-new P n at t h = (t.0, t.1 ++ n ∷ [], ap (λ z. z ++ n ∷ []) t.2, λ q e. subst (λ (z : Node). In q (above (open_at z))) (sym (last_node-push t.0 t.1 n)) (h q e))

Tail-grow_at : (at : Option Node) (t : TreeToken) (P : Tree) → P.at ≡ at → Tail P → Tail (grow_at at t P)
Tail-grow_at None t P e h = h
Tail-grow_at (Some p) (Start name) P e h = Tail-new P (new_start p P name) (Some (new_start p P name)) h (λ q f. inl (same_Some _ _ f))
Tail-grow_at (Some p) (Chars b) P e h = Tail-new P (Under p (length P.nodes) (Text b)) (Some p) h (λ q f. subst (λ (z : Node). In z (above p)) (same_Some _ _ f) (above_self p))
Tail-grow_at (Some Root) End P e h = (h.0, h.1, h.2, λ q f. absurd (cc))
Tail-grow_at (Some (Under p s k)) End P e h = (h.0, h.1, h.2, λ q f. subst (λ (z : Node). In z (above (open_at (last_node h.0 h.1)))) (same_Some _ _ f) (above_up p s k _ (h.3 (Under p s k) e)))

ends_push : (n : ℕ) → ends (suc n) ≡ ends n ++ End ∷ []
ends_push zero = refl
ends_push (suc n) = ap (λ z. End ∷ z) (ends_push n)

behind_start : (r : Node) (ns : List Node) (p : Node) (s : ℕ) (name : List ℕ) → tokens_behind r (ns ++ Under p s (Element name) ∷ []) (Some (Under p s (Element name))) ≡ tokens_behind r ns (Some p) ++ Start name ∷ []
behind_start r [] p s name = let z : level (Under p s (Element name)) - level (Under p s (Element name)) ≡ 0 = omega arith in ap (λ (n : ℕ). ends (level (open_at r) - level p) ++ (Start name ∷ ends n)) z
behind_start r (Root ∷ ns) p s name = behind_start Root ns p s name
behind_start r (Under q t k ∷ ns) p s name =
    ap (λ z. ends (level (open_at r) - level q) ++ (token_of k ++ z)) (behind_start (Under q t k) ns p s name)
    ∙ (ap (λ z. ends (level (open_at r) - level q) ++ z) (sym (append_assoc (token_of k) (tokens_behind (Under q t k) ns (Some p)) (Start name ∷ [])))
    ∙ sym (append_assoc (ends (level (open_at r) - level q)) (token_of k ++ tokens_behind (Under q t k) ns (Some p)) (Start name ∷ [])))

behind_chars : (r : Node) (ns : List Node) (p : Node) (s : ℕ) (b : List ℕ) → tokens_behind r (ns ++ Under p s (Text b) ∷ []) (Some p) ≡ tokens_behind r ns (Some p) ++ Chars b ∷ []
behind_chars r [] p s b = let z : level p - level p ≡ 0 = omega arith in ap (λ (n : ℕ). ends (level (open_at r) - level p) ++ (Chars b ∷ ends n)) z
behind_chars r (Root ∷ ns) p s b = behind_chars Root ns p s b
behind_chars r (Under q t k ∷ ns) p s b =
    ap (λ z. ends (level (open_at r) - level q) ++ (token_of k ++ z)) (behind_chars (Under q t k) ns p s b)
    ∙ (ap (λ z. ends (level (open_at r) - level q) ++ z) (sym (append_assoc (token_of k) (tokens_behind (Under q t k) ns (Some p)) (Chars b ∷ [])))
    ∙ sym (append_assoc (ends (level (open_at r) - level q)) (token_of k ++ tokens_behind (Under q t k) ns (Some p)) (Chars b ∷ [])))

-- one end token more
behind_end : (r : Node) (ns : List Node) (at at' : Option Node) → tokens_behind (last_node r ns) [] at' ≡ tokens_behind (last_node r ns) [] at ++ End ∷ [] → tokens_behind r ns at' ≡ tokens_behind r ns at ++ End ∷ []
unfolding last_node
behind_end r [] at at' e = e
behind_end r (Root ∷ ns) at at' e = behind_end Root ns at at' e
behind_end r (Under q t k ∷ ns) at at' e =
    ap (λ z. ends (level (open_at r) - level q) ++ (token_of k ++ z)) (behind_end (Under q t k) ns at at' e)
    ∙ (ap (λ z. ends (level (open_at r) - level q) ++ z) (sym (append_assoc (token_of k) (tokens_behind (Under q t k) ns at) (End ∷ [])))
    ∙ sym (append_assoc (ends (level (open_at r) - level q)) (token_of k ++ tokens_behind (Under q t k) ns at) (End ∷ [])))

tokens_push_at : (at : Option Node) (t : TreeToken) (P : Tree) → P.at ≡ at → may_come_at at t P.nodes ≡ true → Tail P → tokens_of (grow_at at t P) ≡ tokens_of P ++ t ∷ []
tokens_push_at None t P e m h = absurd (false≢true m)
tokens_push_at (Some p) (Start name) P e m h =
    let n : Node = new_start p P name in
    ap (λ z. tokens_from (z ++ n ∷ []) (Some n)) h.2 ∙ (behind_start h.0 h.1 p (length P.nodes) name ∙ ap (λ z. z ++ Start name ∷ []) (sym (ap (λ z. tokens_from z (Some p)) h.2) ∙ ap (tokens_from P.nodes) (sym e)))
tokens_push_at (Some p) (Chars b) P e m h =
    ap (λ z. tokens_from (z ++ Under p (length P.nodes) (Text b) ∷ []) (Some p)) h.2 ∙ (behind_chars h.0 h.1 p (length P.nodes) b ∙ ap (λ z. z ++ Chars b ∷ []) (sym (ap (λ z. tokens_from z (Some p)) h.2) ∙ ap (tokens_from P.nodes) (sym e)))
tokens_push_at (Some Root) End P e m h =
    let l : Node = last_node h.0 h.1 in
    let g = level_above (open_at l) Root (h.3 Root e) in
    let a : suc (level (open_at l)) ≡ suc (level (open_at l) - level Root) = omega arith in
    ap (λ z. tokens_from z None) h.2 ∙ (behind_end h.0 h.1 (Some Root) None (ap ends a ∙ ends_push (level (open_at l) - level Root)) ∙ ap (λ z. z ++ End ∷ []) (sym (ap (λ z. tokens_from z (Some Root)) h.2) ∙ ap (tokens_from P.nodes) (sym e)))
tokens_push_at (Some (Under p s k)) End P e m h =
    let l : Node = last_node h.0 h.1 in
    let g = level_above (open_at l) (Under p s k) (h.3 (Under p s k) e) in
    let a : level (open_at l) - level p ≡ suc (level (open_at l) - level (Under p s k)) = omega arith in
    ap (λ z. tokens_from z (Some p)) h.2 ∙ (behind_end h.0 h.1 (Some (Under p s k)) (Some p) (ap ends a ∙ ends_push (level (open_at l) - level (Under p s k))) ∙ ap (λ z. z ++ End ∷ []) (sym (ap (λ z. tokens_from z (Some (Under p s k))) h.2) ∙ ap (tokens_from P.nodes) (sym e)))

found_from : (ts : List TreeToken) (P : Tree) → may_all ts P ≡ true → Tail P → tokens_of (grow_all ts P) ≡ tokens_of P ++ ts
found_from [] P m h = sym (append-nil _)
found_from (t ∷ ts) P m h =
    let a = and_parts (may_come t P) (may_all ts (grow t P)) m in
    found_from ts (grow t P) a.1 (Tail-grow_at P.at t P refl h) ∙ (ap (λ z. z ++ ts) (tokens_push_at P.at t P refl a.0 h) ∙ append_assoc (tokens_of P) (t ∷ []) ts)

pub tokens_found : (ts : List TreeToken) → may_all ts opening ≡ true → tokens_of (grow_all ts opening) ≡ ts
unfolding last_node
tokens_found ts m = found_from ts opening m (Root, [], refl, λ q e. inl (same_Some _ _ e))
