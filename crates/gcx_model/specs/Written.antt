-- What is written for a node: tags and escaped text (XML 1.0, sections 2.4 and 3.1; that `>` is always escaped is this project's).
use Rattle.std.specs.Prelude.{ℕ, cond, List, [], ◌∷◌, ◌++◌, ◌==◌, flat_map}

-- <name>
abbrev pub start_tag : List ℕ → List ℕ
start_tag name = 60 ∷ (name ++ (62 ∷ []))

-- </name>
abbrev pub end_tag : List ℕ → List ℕ
end_tag name = 60 ∷ (47 ∷ (name ++ (62 ∷ [])))

-- &amp; &lt; &gt; for the three characters, each other byte as it is
abbrev pub escape : ℕ → List ℕ
escape c = cond (c == 38) (38 ∷ 97 ∷ 109 ∷ 112 ∷ 59 ∷ []) (cond (c == 60) (38 ∷ 108 ∷ 116 ∷ 59 ∷ []) (cond (c == 62) (38 ∷ 103 ∷ 116 ∷ 59 ∷ []) (c ∷ [])))

abbrev pub escaped : List ℕ → List ℕ
escaped bytes = flat_map escape bytes
