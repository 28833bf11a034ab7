-- Documents and refusals, worked out from the grammar.
use Rattle.std.proofs.Common.{ℕ, ◌≡◌, cond, List, [], ◌∷◌, Option, Some, None, Result, Ok, Err, refl}
use lib.Utf8.{encode}
use Rattle.gcx_base.specs.Limits.{full_limits}
use Rattle.gcx_base.specs.declared.limits.Limits.{Limits}
use Rattle.gcx_model.specs.Tree.{TreeToken, Start, Chars, End}
use Rattle.gcx_model.specs.Faults.{DocumentRefusal, AtSyntax, AtDepth, AtName, AtText}
use Rattle.doc_laws.specs.Machine.{State, start, is_whole}
use Rattle.doc_laws.specs.Judging.{judged_steps}

abbrev small : ℕ → ℕ → ℕ → Limits
small depth name text = record { bytes = 100; depth = depth; name = name; text = text }

abbrev refused_by : Result State DocumentRefusal → Option DocumentRefusal
refused_by (Ok s) = None
refused_by (Err f) = Some f

abbrev refusal_of : Limits → List ℕ → Option DocumentRefusal
refusal_of lim cs = refused_by (judged_steps lim 0 start cs)

abbrev tokens_by : Result State DocumentRefusal → Option (List TreeToken)
tokens_by (Ok s) = cond (is_whole s) (Some s.tokens) None
tokens_by (Err f) = None

abbrev tokens_of : List ℕ → Option (List TreeToken)
tokens_of cs = tokens_by (judged_steps full_limits 0 start cs)

-- <a/>
read0 : tokens_of (60 ∷ (97 ∷ (47 ∷ (62 ∷ [])))) ≡ Some (Start (97 ∷ []) ∷ (End ∷ []))
unfolding encode
read0 = refl

-- \ufeff<a/>
read1 : tokens_of (65279 ∷ (60 ∷ (97 ∷ (47 ∷ (62 ∷ []))))) ≡ Some (Start (97 ∷ []) ∷ (End ∷ []))
unfolding encode
read1 = refl

-- <?xml version="1.0"?>\n<!DOCTYPE a "x>y" \'z"\'>\n<!-- c --><a >x</a >\n
read2 : tokens_of (60 ∷ (63 ∷ (120 ∷ (109 ∷ (108 ∷ (32 ∷ (118 ∷ (101 ∷ (114 ∷ (115 ∷ (105 ∷ (111 ∷ (110 ∷ (61 ∷ (34 ∷ (49 ∷ (46 ∷ (48 ∷ (34 ∷ (63 ∷ (62 ∷ (10 ∷ (60 ∷ (33 ∷ (68 ∷ (79 ∷ (67 ∷ (84 ∷ (89 ∷ (80 ∷ (69 ∷ (32 ∷ (97 ∷ (32 ∷ (34 ∷ (120 ∷ (62 ∷ (121 ∷ (34 ∷ (32 ∷ (39 ∷ (122 ∷ (34 ∷ (39 ∷ (62 ∷ (10 ∷ (60 ∷ (33 ∷ (45 ∷ (45 ∷ (32 ∷ (99 ∷ (32 ∷ (45 ∷ (45 ∷ (62 ∷ (60 ∷ (97 ∷ (32 ∷ (62 ∷ (120 ∷ (60 ∷ (47 ∷ (97 ∷ (32 ∷ (62 ∷ (10 ∷ []))))))))))))))))))))))))))))))))))))))))))))))))))))))))))))))))))) ≡ Some (Start (97 ∷ []) ∷ (Chars (120 ∷ []) ∷ (End ∷ [])))
unfolding encode
read2 = refl

-- <a b="1" c=\'&lt;"\'> <d/>x<!-- - -->y<?p q??>z</a>
read3 : tokens_of (60 ∷ (97 ∷ (32 ∷ (98 ∷ (61 ∷ (34 ∷ (49 ∷ (34 ∷ (32 ∷ (99 ∷ (61 ∷ (39 ∷ (38 ∷ (108 ∷ (116 ∷ (59 ∷ (34 ∷ (39 ∷ (62 ∷ (32 ∷ (60 ∷ (100 ∷ (47 ∷ (62 ∷ (120 ∷ (60 ∷ (33 ∷ (45 ∷ (45 ∷ (32 ∷ (45 ∷ (32 ∷ (45 ∷ (45 ∷ (62 ∷ (121 ∷ (60 ∷ (63 ∷ (112 ∷ (32 ∷ (113 ∷ (63 ∷ (63 ∷ (62 ∷ (122 ∷ (60 ∷ (47 ∷ (97 ∷ (62 ∷ []))))))))))))))))))))))))))))))))))))))))))))))))) ≡ Some (Start (97 ∷ []) ∷ (Start (98 ∷ []) ∷ (Chars (49 ∷ []) ∷ (End ∷ (Start (99 ∷ []) ∷ (Chars (60 ∷ (34 ∷ [])) ∷ (End ∷ (Start (100 ∷ []) ∷ (End ∷ (Chars (120 ∷ (121 ∷ (122 ∷ []))) ∷ (End ∷ [])))))))))))
unfolding encode
read3 = refl

-- <a>&#32;&#x9;&#xD;</a>
read4 : tokens_of (60 ∷ (97 ∷ (62 ∷ (38 ∷ (35 ∷ (51 ∷ (50 ∷ (59 ∷ (38 ∷ (35 ∷ (120 ∷ (57 ∷ (59 ∷ (38 ∷ (35 ∷ (120 ∷ (68 ∷ (59 ∷ (60 ∷ (47 ∷ (97 ∷ (62 ∷ [])))))))))))))))))))))) ≡ Some (Start (97 ∷ []) ∷ (End ∷ []))
unfolding encode
read4 = refl

-- <a b=" "> x</a>
read5 : tokens_of (60 ∷ (97 ∷ (32 ∷ (98 ∷ (61 ∷ (34 ∷ (32 ∷ (34 ∷ (62 ∷ (32 ∷ (120 ∷ (60 ∷ (47 ∷ (97 ∷ (62 ∷ []))))))))))))))) ≡ Some (Start (97 ∷ []) ∷ (Start (98 ∷ []) ∷ (End ∷ (Chars (32 ∷ (120 ∷ [])) ∷ (End ∷ [])))))
unfolding encode
read5 = refl

-- <a>]]>&#x00041;&#66;&apos;&quot;&amp;&gt;</a>
read6 : tokens_of (60 ∷ (97 ∷ (62 ∷ (93 ∷ (93 ∷ (62 ∷ (38 ∷ (35 ∷ (120 ∷ (48 ∷ (48 ∷ (48 ∷ (52 ∷ (49 ∷ (59 ∷ (38 ∷ (35 ∷ (54 ∷ (54 ∷ (59 ∷ (38 ∷ (97 ∷ (112 ∷ (111 ∷ (115 ∷ (59 ∷ (38 ∷ (113 ∷ (117 ∷ (111 ∷ (116 ∷ (59 ∷ (38 ∷ (97 ∷ (109 ∷ (112 ∷ (59 ∷ (38 ∷ (103 ∷ (116 ∷ (59 ∷ (60 ∷ (47 ∷ (97 ∷ (62 ∷ []))))))))))))))))))))))))))))))))))))))))))))) ≡ Some (Start (97 ∷ []) ∷ (Chars (93 ∷ (93 ∷ (62 ∷ (65 ∷ (66 ∷ (39 ∷ (34 ∷ (38 ∷ (62 ∷ []))))))))) ∷ (End ∷ [])))
unfolding encode
read6 = refl

-- <a><![CDATA[]]]]>]<![CDATA[<&>]]></a>
read7 : tokens_of (60 ∷ (97 ∷ (62 ∷ (60 ∷ (33 ∷ (91 ∷ (67 ∷ (68 ∷ (65 ∷ (84 ∷ (65 ∷ (91 ∷ (93 ∷ (93 ∷ (93 ∷ (93 ∷ (62 ∷ (93 ∷ (60 ∷ (33 ∷ (91 ∷ (67 ∷ (68 ∷ (65 ∷ (84 ∷ (65 ∷ (91 ∷ (60 ∷ (38 ∷ (62 ∷ (93 ∷ (93 ∷ (62 ∷ (60 ∷ (47 ∷ (97 ∷ (62 ∷ []))))))))))))))))))))))))))))))))))))) ≡ Some (Start (97 ∷ []) ∷ (Chars (93 ∷ (93 ∷ (93 ∷ (60 ∷ (38 ∷ (62 ∷ [])))))) ∷ (End ∷ [])))
unfolding encode
read7 = refl

-- <é:ü-1>😀</é:ü-1>
read8 : tokens_of (60 ∷ (233 ∷ (58 ∷ (252 ∷ (45 ∷ (49 ∷ (62 ∷ (128512 ∷ (60 ∷ (47 ∷ (233 ∷ (58 ∷ (252 ∷ (45 ∷ (49 ∷ (62 ∷ [])))))))))))))))) ≡ Some (Start (195 ∷ (169 ∷ (58 ∷ (195 ∷ (188 ∷ (45 ∷ (49 ∷ []))))))) ∷ (Chars (240 ∷ (159 ∷ (152 ∷ (128 ∷ [])))) ∷ (End ∷ [])))
unfolding encode
read8 = refl

-- <a></ab>
refuse0 : refusal_of full_limits (60 ∷ (97 ∷ (62 ∷ (60 ∷ (47 ∷ (97 ∷ (98 ∷ (62 ∷ [])))))))) ≡ Some (AtSyntax 6)
unfolding encode
refuse0 = refl

-- <ab></a>
refuse1 : refusal_of full_limits (60 ∷ (97 ∷ (98 ∷ (62 ∷ (60 ∷ (47 ∷ (97 ∷ (62 ∷ [])))))))) ≡ Some (AtSyntax 7)
unfolding encode
refuse1 = refl

-- <é></e>
refuse2 : refusal_of full_limits (60 ∷ (233 ∷ (62 ∷ (60 ∷ (47 ∷ (101 ∷ (62 ∷ []))))))) ≡ Some (AtSyntax 6)
unfolding encode
refuse2 = refl

-- <a>&#1114112;</a>
refuse3 : refusal_of full_limits (60 ∷ (97 ∷ (62 ∷ (38 ∷ (35 ∷ (49 ∷ (49 ∷ (49 ∷ (52 ∷ (49 ∷ (49 ∷ (50 ∷ (59 ∷ (60 ∷ (47 ∷ (97 ∷ (62 ∷ []))))))))))))))))) ≡ Some (AtSyntax 11)
unfolding encode
refuse3 = refl

-- <a>&#x110000;</a>
refuse4 : refusal_of full_limits (60 ∷ (97 ∷ (62 ∷ (38 ∷ (35 ∷ (120 ∷ (49 ∷ (49 ∷ (48 ∷ (48 ∷ (48 ∷ (48 ∷ (59 ∷ (60 ∷ (47 ∷ (97 ∷ (62 ∷ []))))))))))))))))) ≡ Some (AtSyntax 11)
unfolding encode
refuse4 = refl

-- <a>&#;</a>
refuse5 : refusal_of full_limits (60 ∷ (97 ∷ (62 ∷ (38 ∷ (35 ∷ (59 ∷ (60 ∷ (47 ∷ (97 ∷ (62 ∷ [])))))))))) ≡ Some (AtSyntax 5)
unfolding encode
refuse5 = refl

-- <a>&#xD800;</a>
refuse6 : refusal_of full_limits (60 ∷ (97 ∷ (62 ∷ (38 ∷ (35 ∷ (120 ∷ (68 ∷ (56 ∷ (48 ∷ (48 ∷ (59 ∷ (60 ∷ (47 ∷ (97 ∷ (62 ∷ []))))))))))))))) ≡ Some (AtSyntax 10)
unfolding encode
refuse6 = refl

-- <a>&#0x41;</a>
refuse7 : refusal_of full_limits (60 ∷ (97 ∷ (62 ∷ (38 ∷ (35 ∷ (48 ∷ (120 ∷ (52 ∷ (49 ∷ (59 ∷ (60 ∷ (47 ∷ (97 ∷ (62 ∷ [])))))))))))))) ≡ Some (AtSyntax 6)
unfolding encode
refuse7 = refl

-- <a>&lx;</a>
refuse8 : refusal_of full_limits (60 ∷ (97 ∷ (62 ∷ (38 ∷ (108 ∷ (120 ∷ (59 ∷ (60 ∷ (47 ∷ (97 ∷ (62 ∷ []))))))))))) ≡ Some (AtSyntax 5)
unfolding encode
refuse8 = refl

-- <!-- a--b --><a/>
refuse9 : refusal_of full_limits (60 ∷ (33 ∷ (45 ∷ (45 ∷ (32 ∷ (97 ∷ (45 ∷ (45 ∷ (98 ∷ (32 ∷ (45 ∷ (45 ∷ (62 ∷ (60 ∷ (97 ∷ (47 ∷ (62 ∷ []))))))))))))))))) ≡ Some (AtSyntax 8)
unfolding encode
refuse9 = refl

-- <!-- a---><a/>
refuse10 : refusal_of full_limits (60 ∷ (33 ∷ (45 ∷ (45 ∷ (32 ∷ (97 ∷ (45 ∷ (45 ∷ (45 ∷ (62 ∷ (60 ∷ (97 ∷ (47 ∷ (62 ∷ [])))))))))))))) ≡ Some (AtSyntax 8)
unfolding encode
refuse10 = refl

-- <a b="1" b="2"/>
refuse11 : refusal_of full_limits (60 ∷ (97 ∷ (32 ∷ (98 ∷ (61 ∷ (34 ∷ (49 ∷ (34 ∷ (32 ∷ (98 ∷ (61 ∷ (34 ∷ (50 ∷ (34 ∷ (47 ∷ (62 ∷ [])))))))))))))))) ≡ Some (AtSyntax 10)
unfolding encode
refuse11 = refl

-- <a b="1"c="2"/>
refuse12 : refusal_of full_limits (60 ∷ (97 ∷ (32 ∷ (98 ∷ (61 ∷ (34 ∷ (49 ∷ (34 ∷ (99 ∷ (61 ∷ (34 ∷ (50 ∷ (34 ∷ (47 ∷ (62 ∷ []))))))))))))))) ≡ Some (AtSyntax 8)
unfolding encode
refuse12 = refl

-- <a b="<"/>
refuse13 : refusal_of full_limits (60 ∷ (97 ∷ (32 ∷ (98 ∷ (61 ∷ (34 ∷ (60 ∷ (34 ∷ (47 ∷ (62 ∷ [])))))))))) ≡ Some (AtSyntax 6)
unfolding encode
refuse13 = refl

-- <a/><b/>
refuse14 : refusal_of full_limits (60 ∷ (97 ∷ (47 ∷ (62 ∷ (60 ∷ (98 ∷ (47 ∷ (62 ∷ [])))))))) ≡ Some (AtSyntax 5)
unfolding encode
refuse14 = refl

-- <a/>x
refuse15 : refusal_of full_limits (60 ∷ (97 ∷ (47 ∷ (62 ∷ (120 ∷ []))))) ≡ Some (AtSyntax 4)
unfolding encode
refuse15 = refl

-- <a/>&#32;
refuse16 : refusal_of full_limits (60 ∷ (97 ∷ (47 ∷ (62 ∷ (38 ∷ (35 ∷ (51 ∷ (50 ∷ (59 ∷ []))))))))) ≡ Some (AtSyntax 4)
unfolding encode
refuse16 = refl

-- <a/><!DOCTYPE a>
refuse17 : refusal_of full_limits (60 ∷ (97 ∷ (47 ∷ (62 ∷ (60 ∷ (33 ∷ (68 ∷ (79 ∷ (67 ∷ (84 ∷ (89 ∷ (80 ∷ (69 ∷ (32 ∷ (97 ∷ (62 ∷ [])))))))))))))))) ≡ Some (AtSyntax 6)
unfolding encode
refuse17 = refl

-- <!DOCTYPE a [
refuse18 : refusal_of full_limits (60 ∷ (33 ∷ (68 ∷ (79 ∷ (67 ∷ (84 ∷ (89 ∷ (80 ∷ (69 ∷ (32 ∷ (97 ∷ (32 ∷ (91 ∷ []))))))))))))) ≡ Some (AtSyntax 12)
unfolding encode
refuse18 = refl

--  \ufeff<a/>
refuse19 : refusal_of full_limits (32 ∷ (65279 ∷ (60 ∷ (97 ∷ (47 ∷ (62 ∷ [])))))) ≡ Some (AtSyntax 1)
unfolding encode
refuse19 = refl

-- <a>\x01
refuse20 : refusal_of full_limits (60 ∷ (97 ∷ (62 ∷ (1 ∷ [])))) ≡ Some (AtSyntax 3)
unfolding encode
refuse20 = refl

-- <a><b/></a>
refuse21 : refusal_of (small 1 9 9) (60 ∷ (97 ∷ (62 ∷ (60 ∷ (98 ∷ (47 ∷ (62 ∷ (60 ∷ (47 ∷ (97 ∷ (62 ∷ []))))))))))) ≡ Some (AtDepth 3)
unfolding encode
refuse21 = refl

-- <a b=""/>
refuse22 : refusal_of (small 1 9 9) (60 ∷ (97 ∷ (32 ∷ (98 ∷ (61 ∷ (34 ∷ (34 ∷ (47 ∷ (62 ∷ []))))))))) ≡ Some (AtDepth 3)
unfolding encode
refuse22 = refl

-- <a/>
refuse23 : refusal_of (small 0 0 0) (60 ∷ (97 ∷ (47 ∷ (62 ∷ [])))) ≡ Some (AtDepth 0)
unfolding encode
refuse23 = refl

-- <ab/>
refuse24 : refusal_of (small 9 1 9) (60 ∷ (97 ∷ (98 ∷ (47 ∷ (62 ∷ []))))) ≡ Some (AtName 2)
unfolding encode
refuse24 = refl

-- <é/>
refuse25 : refusal_of (small 9 1 9) (60 ∷ (233 ∷ (47 ∷ (62 ∷ [])))) ≡ Some (AtName 1)
unfolding encode
refuse25 = refl

-- <a><![CDATA[x]y]]></a>
refuse26 : refusal_of (small 9 9 1) (60 ∷ (97 ∷ (62 ∷ (60 ∷ (33 ∷ (91 ∷ (67 ∷ (68 ∷ (65 ∷ (84 ∷ (65 ∷ (91 ∷ (120 ∷ (93 ∷ (121 ∷ (93 ∷ (93 ∷ (62 ∷ (60 ∷ (47 ∷ (97 ∷ (62 ∷ [])))))))))))))))))))))) ≡ Some (AtText 14)
unfolding encode
refuse26 = refl

-- <a>  </a>
refuse27 : refusal_of (small 9 9 1) (60 ∷ (97 ∷ (62 ∷ (32 ∷ (32 ∷ (60 ∷ (47 ∷ (97 ∷ (62 ∷ []))))))))) ≡ Some (AtText 4)
unfolding encode
refuse27 = refl

-- <a b="&#65;&#66;"/>
refuse28 : refusal_of (small 9 9 1) (60 ∷ (97 ∷ (32 ∷ (98 ∷ (61 ∷ (34 ∷ (38 ∷ (35 ∷ (54 ∷ (53 ∷ (59 ∷ (38 ∷ (35 ∷ (54 ∷ (54 ∷ (59 ∷ (34 ∷ (47 ∷ (62 ∷ []))))))))))))))))))) ≡ Some (AtText 15)
unfolding encode
refuse28 = refl

-- white space outside the root is no run
outside : refusal_of (small 9 9 0) (32 ∷ (32 ∷ (60 ∷ (97 ∷ (47 ∷ (62 ∷ (32 ∷ (32 ∷ [])))))))) ≡ None
unfolding encode
outside = refl
