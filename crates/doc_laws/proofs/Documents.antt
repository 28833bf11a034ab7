-- What is spelled is a document.
use Rattle.std.proofs.Common.{ℕ, ◌≡◌, Bool, true, false, not, cond, List, [], refl, sym, ap, ◌∙◌, subst}
use Rattle.std.proofs.lemmas.Bool.{true≢false, false≢true}
use lib.Utf8.{encodes}
use Rattle.gcx_model.specs.Document.{Nodes, none, element, text, is_blank, ends_with_text, AreNodes, IsDocument}
use Rattle.gcx_model.specs.Attributes.{IsNameBytes, is_name, Attributes, no_attribute, attribute, IsAttributes, value_run}
use Rattle.gcx_model.specs.Grammar.{Content, nothing, mark, space, char, reference, cdata, comment, bare, instruction, doctype, single, tagged, has_element, may_open, IsContent, text_run, with_run, joined, attribute_nodes, nodes, SpellsDocument}

name_bytes : (n : List ℕ) → is_name n ≡ true → IsNameBytes (encodes n)
name_bytes n h = record { chars = n; name = h; parts = refl }

ends_joined : (a b : Nodes) → ends_with_text a ≡ false → ends_with_text b ≡ false → ends_with_text (joined a b) ≡ false
ends_joined a none h k = h
ends_joined a (element before n inner) h k = refl
ends_joined a (text before t) h k = absurd (true≢false k)

joined_are : (a b : Nodes) → AreNodes a → ends_with_text a ≡ false → AreNodes b → AreNodes (joined a b)
joined_are a none g h k = g
joined_are a (element before n inner) g h k = (joined_are a before g h k.0, k.1, k.2)
joined_are a (text before t) g h k = (joined_are a before g h k.0, ends_joined a before h k.1, k.2)

with_run_are : (ns : Nodes) (r : List ℕ) → AreNodes ns → ends_with_text ns ≡ false → AreNodes (with_run ns r)
with_run_are ns r g h =
    elim (is_blank r) as (λ (b : Bool). is_blank r ≡ b → AreNodes (cond b ns (text ns r))) [
      | true ↦ λ e. g
      | false ↦ λ e. (g, h, e)
    ] refl

attributes_end : (ats : Attributes) → ends_with_text (attribute_nodes ats) ≡ false
attributes_end no_attribute = refl
attributes_end (attribute ats h v) = refl

attributes_are : (ats : Attributes) → IsAttributes ats → AreNodes (attribute_nodes ats)
attributes_are no_attribute g = tt
attributes_are (attribute ats h v) g = (attributes_are ats g.0, name_bytes h.name g.1.1, with_run_are none (value_run v) tt refl)

nodes_end : (x : Content) → ends_with_text (nodes x) ≡ false
nodes_end nothing = refl
nodes_end mark = refl
nodes_end (space y c) = nodes_end y
nodes_end (char y c) = nodes_end y
nodes_end (reference y r) = nodes_end y
nodes_end (cdata y d) = nodes_end y
nodes_end (comment y r) = nodes_end y
nodes_end (bare y n) = nodes_end y
nodes_end (instruction y n c d) = nodes_end y
nodes_end (doctype y q c d) = nodes_end y
nodes_end (single y n ats sp) = refl
nodes_end (tagged y n ats sp k sp2) = refl

content_are : (b : Bool) (x : Content) → IsContent b x → AreNodes (nodes x)
content_are b nothing g = tt
content_are b mark g = tt
content_are b (space y c) g = content_are b y g.0
content_are b (char y c) g = content_are b y g.0
content_are b (reference y r) g = content_are b y g.0
content_are b (cdata y d) g = content_are b y g.0
content_are b (comment y r) g = content_are b y g.0
content_are b (bare y n) g = content_are b y g.0
content_are b (instruction y n c d) g = content_are b y g.0
content_are b (doctype y q c d) g = content_are b y g.0
content_are b (single y n ats sp) g = (with_run_are (nodes y) (text_run y) (content_are b y g.0) (nodes_end y), name_bytes n g.2, attributes_are ats g.4)
content_are b (tagged y n ats sp k sp2) g = (
  with_run_are (nodes y) (text_run y) (content_are b y g.0) (nodes_end y),
  name_bytes n g.2,
  joined_are (attribute_nodes ats) (with_run (nodes k) (text_run k)) (attributes_are ats g.6) (attributes_end ats) (with_run_are (nodes k) (text_run k) (content_are true k g.4) (nodes_end k)),
)

-- outside the root there is no run
pub no_run : (x : Content) → IsContent false x → text_run x ≡ []
no_run nothing g = refl
no_run mark g = refl
no_run (space y c) g = no_run y g.0
no_run (char y c) g = absurd (false≢true g.1)
no_run (reference y r) g = absurd (false≢true g.1)
no_run (cdata y d) g = absurd (false≢true g.1)
no_run (comment y r) g = no_run y g.0
no_run (bare y n) g = no_run y g.0
no_run (instruction y n c d) g = no_run y g.0
no_run (doctype y q c d) g = no_run y g.0
no_run (single y n ats sp) g = refl
no_run (tagged y n ats sp k sp2) g = refl

no_nodes : (x : Content) → has_element x ≡ false → nodes x ≡ none
no_nodes nothing h = refl
no_nodes mark h = refl
no_nodes (space y c) h = no_nodes y h
no_nodes (char y c) h = no_nodes y h
no_nodes (reference y r) h = no_nodes y h
no_nodes (cdata y d) h = no_nodes y h
no_nodes (comment y r) h = no_nodes y h
no_nodes (bare y n) h = no_nodes y h
no_nodes (instruction y n c d) h = no_nodes y h
no_nodes (doctype y q c d) h = no_nodes y h
no_nodes (single y n ats sp) h = absurd (true≢false h)
no_nodes (tagged y n ats sp k sp2) h = absurd (true≢false h)

none_before : (y : Content) → IsContent false y → may_open false (has_element y) ≡ true → with_run (nodes y) (text_run y) ≡ none
none_before y g may = ap (with_run (nodes y)) (no_run y g) ∙ no_nodes y (off (has_element y) may)
  where
    off : (b : Bool) → not b ≡ true → b ≡ false
    off true h = absurd (false≢true h)
    off false h = refl

root_first : (before : Nodes) (n : List ℕ) (kids : Nodes) → before ≡ none → IsNameBytes n → AreNodes kids → IsDocument (element before n kids)
root_first before n kids e h k = subst (λ z. IsDocument (element z n kids)) (sym e) (tt, h, k)

document_is : (x : Content) → IsContent false x → has_element x ≡ true → IsDocument (nodes x)
document_is nothing g h = absurd (false≢true h)
document_is mark g h = absurd (false≢true h)
document_is (space y c) g h = document_is y g.0 h
document_is (char y c) g h = document_is y g.0 h
document_is (reference y r) g h = document_is y g.0 h
document_is (cdata y d) g h = document_is y g.0 h
document_is (comment y r) g h = document_is y g.0 h
document_is (bare y n) g h = document_is y g.0 h
document_is (instruction y n c d) g h = document_is y g.0 h
document_is (doctype y q c d) g h = document_is y g.0 h
document_is (single y n ats sp) g h = root_first (with_run (nodes y) (text_run y)) (encodes n) (attribute_nodes ats) (none_before y g.0 g.1) (name_bytes n g.2) (attributes_are ats g.4)
document_is (tagged y n ats sp k sp2) g h =
    let kids = joined (attribute_nodes ats) (with_run (nodes k) (text_run k)) in
    root_first (with_run (nodes y) (text_run y)) (encodes n) kids (none_before y g.0 g.1) (name_bytes n g.2)
    (joined_are (attribute_nodes ats) (with_run (nodes k) (text_run k)) (attributes_are ats g.6) (attributes_end ats) (with_run_are (nodes k) (text_run k) (content_are true k g.4) (nodes_end k)))

-- what is spelled is a document
pub spells_document : (c : List ℕ) (d : Nodes) → SpellsDocument c d → IsDocument d
spells_document c d h = subst IsDocument h.tree (document_is h.content h.good h.root)
