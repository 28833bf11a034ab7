-- How many nodes a front has: no more than it has characters.
use Rattle.std.proofs.Common.{ℕ, ◌≡◌, ◌+◌, ◌≤◌, Bool, true, false, cond, List, [], ◌∷◌, ◌++◌, length, Option, Some, None, ap, ◌∙◌, arith, length-append}
use lib.Utf8.{encodes, encode}
use Rattle.gcx_model.specs.Document.{Nodes, none, element, is_blank, tokens}
use Rattle.gcx_model.specs.Tree.{Node, Root, Under, Tree, TreeToken, Start, Chars, End, grow, grow_at, grow_all}
use Rattle.gcx_model.specs.References.{Reference, named, decimal_reference, hexadecimal_reference, reference_spelling}
use Rattle.gcx_model.specs.Attributes.{Head, Attributes, no_attribute, attribute, value_spelling, head_spelling, attributes_spelling, value_run}
use Rattle.gcx_model.specs.Grammar.{Content, nothing, mark, space, char, reference, cdata, comment, bare, instruction, doctype, single, tagged, start_tag_spelling, single_tag, end_tag_spelling, spelling, text_run, with_run, joined, attribute_nodes, nodes}
use Rattle.gcx_model.specs.Fronts.{Frames, bottom, frame, frames_spelling, text_of, frames_tokens, seen_tokens}
use Rattle.doc_laws.proofs.Moves.{tokens-joined, tokens-with_run}

-- how many nodes the tokens open
abbrev pub opens : List TreeToken → ℕ
opens [] = 0
opens (Start name ∷ ts) = 1 + opens ts
opens (Chars bytes ∷ ts) = 1 + opens ts
opens (End ∷ ts) = opens ts

pub opens-append : (ts us : List TreeToken) → opens (ts ++ us) ≡ opens ts + opens us
opens-append [] us = omega arith
opens-append (Start name ∷ ts) us = let e = opens-append ts us in omega arith
opens-append (Chars bytes ∷ ts) us = let e = opens-append ts us in omega arith
opens-append (End ∷ ts) us = opens-append ts us

-- a token adds that many nodes at most
pub opens_nodes : (ts : List TreeToken) (P : Tree) → length (grow_all ts P).nodes ≤ length P.nodes + opens ts
opens_nodes [] P = omega arith
opens_nodes (t ∷ ts) P = let r = opens_nodes ts (grow t P) in let s = one P.at t P in let e = opens-append (t ∷ []) ts in omega arith
  where
    one : (at : Option Node) (t : TreeToken) (P : Tree) → length (grow_at at t P).nodes ≤ length P.nodes + opens (t ∷ [])
    one None t P = omega arith
    one (Some p) (Start name) P = omega (arith, length-append P.nodes)
    one (Some p) (Chars b) P = omega (arith, length-append P.nodes)
    one (Some Root) End P = omega arith
    one (Some (Under p s k)) End P = omega arith

-- a run is one text at most
text_one : (r : List ℕ) → opens (text_of r) ≤ 1
text_one r = go (is_blank r)
  where
    go : (b : Bool) → opens (cond b [] (Chars r ∷ [])) ≤ 1
    go true = omega arith
    go false = omega arith

reference_long : (r : Reference) → 1 ≤ length (reference_spelling r)
reference_long (named e) = omega arith
reference_long (decimal_reference ds) = omega arith
reference_long (hexadecimal_reference ds) = omega arith

run_opens : (ns : Nodes) (r : List ℕ) → opens (tokens (with_run ns r)) ≡ opens (tokens ns) + opens (text_of r)
run_opens ns r = ap opens (tokens-with_run ns r) ∙ opens-append (tokens ns) (text_of r)

joined_opens : (a b : Nodes) → opens (tokens (joined a b)) ≡ opens (tokens a) + opens (tokens b)
joined_opens a b = ap opens (tokens-joined a b) ∙ opens-append (tokens a) (tokens b)

element_opens : (before : Nodes) (n : List ℕ) (inner : Nodes) → opens (tokens (element before n inner)) ≡ opens (tokens before) + (1 + opens (tokens inner))
element_opens before n inner = let e = opens-append (tokens before) (Start n ∷ (tokens inner ++ (End ∷ []))) in let f = opens-append (tokens inner) (End ∷ []) in omega arith

head_long : (h : Head) → 2 ≤ length (head_spelling h)
head_long h =
    let a = length-append h.gap (h.name ++ (h.before ++ (61 ∷ (h.behind ++ (h.quote ∷ []))))) in
    let b = length-append h.name (h.before ++ (61 ∷ (h.behind ++ (h.quote ∷ [])))) in
    let c = length-append h.before (61 ∷ (h.behind ++ (h.quote ∷ []))) in
    let d = length-append h.behind (h.quote ∷ []) in
    omega arith

attributes_counted : (ats : Attributes) → opens (tokens (attribute_nodes ats)) ≤ length (attributes_spelling ats)
attributes_counted no_attribute = omega arith
attributes_counted (attribute ats h v) =
    let i = attributes_counted ats in
    let e = element_opens (attribute_nodes ats) (encodes h.name) (with_run none (value_run v)) in
    let r = run_opens none (value_run v) in
    let t = text_one (value_run v) in
    let l = head_long h in
    let a = length-append (attributes_spelling ats) (head_spelling h ++ (value_spelling v ++ (h.quote ∷ []))) in
    let b = length-append (head_spelling h) (value_spelling v ++ (h.quote ∷ [])) in
    omega arith

start_counted : (n : List ℕ) (ats : Attributes) (sp more : List ℕ) → 1 + opens (tokens (attribute_nodes ats)) ≤ length (60 ∷ (n ++ (attributes_spelling ats ++ (sp ++ more))))
start_counted n ats sp more =
    let i = attributes_counted ats in
    let a = length-append n (attributes_spelling ats ++ (sp ++ more)) in
    let b = length-append (attributes_spelling ats) (sp ++ more) in
    omega arith

-- a run that is a text takes a character more
content_counted : (x : Content) → opens (tokens (nodes x)) + opens (text_of (text_run x)) ≤ length (spelling x)
content_counted nothing = omega arith
content_counted mark = omega arith
content_counted (space y c) = let i = content_counted y in let a = length-append (spelling y) (c ∷ []) in omega arith
content_counted (char y c) = let i = content_counted y in let t = text_one (text_run y ++ encode c) in let a = length-append (spelling y) (c ∷ []) in omega arith
content_counted (reference y r) = let i = content_counted y in let t = text_one (text_run (reference y r)) in let l = reference_long r in let a = length-append (spelling y) (reference_spelling r) in omega arith
content_counted (cdata y d) = let i = content_counted y in let t = text_one (text_run (cdata y d)) in let a = length-append (spelling y) (spelling (cdata nothing d)) in omega arith
content_counted (comment y r) = let i = content_counted y in let a = length-append (spelling y) (spelling (comment nothing r)) in omega arith
content_counted (bare y n) = let i = content_counted y in let a = length-append (spelling y) (spelling (bare nothing n)) in omega arith
content_counted (instruction y n c d) = let i = content_counted y in let a = length-append (spelling y) (spelling (instruction nothing n c d)) in omega arith
content_counted (doctype y g c d) = let i = content_counted y in let a = length-append (spelling y) (spelling (doctype nothing g c d)) in omega arith
content_counted (single y n ats sp) =
    let i = content_counted y in
    let e = element_opens (with_run (nodes y) (text_run y)) (encodes n) (attribute_nodes ats) in
    let r = run_opens (nodes y) (text_run y) in
    let s = start_counted n ats sp (47 ∷ (62 ∷ [])) in
    let a = length-append (spelling y) (single_tag n ats sp) in
    omega arith
content_counted (tagged y n ats sp inner sp2) =
    let i = content_counted y in
    let j = content_counted inner in
    let e = element_opens (with_run (nodes y) (text_run y)) (encodes n) (joined (attribute_nodes ats) (with_run (nodes inner) (text_run inner))) in
    let f = joined_opens (attribute_nodes ats) (with_run (nodes inner) (text_run inner)) in
    let r = run_opens (nodes y) (text_run y) in
    let q = run_opens (nodes inner) (text_run inner) in
    let s = start_counted n ats sp (62 ∷ []) in
    let a = length-append (spelling y) (start_tag_spelling n ats sp ++ (spelling inner ++ end_tag_spelling n sp2)) in
    let b = length-append (start_tag_spelling n ats sp) (spelling inner ++ end_tag_spelling n sp2) in
    let c = length-append (spelling inner) (end_tag_spelling n sp2) in
    omega arith

frames_counted : (fs : Frames) → opens (frames_tokens fs) ≤ length (frames_spelling fs)
frames_counted bottom = omega arith
frames_counted (frame fs x n ats sp) =
    let i = frames_counted fs in
    let j = content_counted x in
    let s = start_counted n ats sp (62 ∷ []) in
    let a = opens-append (frames_tokens fs ++ tokens (nodes x)) (text_of (text_run x) ++ (Start (encodes n) ∷ tokens (attribute_nodes ats))) in
    let b = opens-append (frames_tokens fs) (tokens (nodes x)) in
    let c = opens-append (text_of (text_run x)) (Start (encodes n) ∷ tokens (attribute_nodes ats)) in
    let d = length-append (frames_spelling fs) (spelling x ++ start_tag_spelling n ats sp) in
    let e = length-append (spelling x) (start_tag_spelling n ats sp) in
    omega arith

-- the tokens of a front open no more nodes than it has characters
pub front_counted : (fs : Frames) (x : Content) → opens (seen_tokens fs x) ≤ length (frames_spelling fs ++ spelling x)
front_counted fs x =
    let i = frames_counted fs in
    let j = content_counted x in
    let a = opens-append (frames_tokens fs) (tokens (nodes x)) in
    let b = length-append (frames_spelling fs) (spelling x) in
    omega arith
