-- What a body declares, computed.
use Rattle.std.proofs.Common.{◌≡◌, [], ◌∷◌, ◌++◌, Some, None, refl}
use Rattle.std.specs.Prelude.{codes}
use Rattle.glsl_ast.specs.Tree.{Text, boolean, uint, TypeName, type_name, name, declare, loop, switch, Stmts, no_stmts, stmt, no_arms, arm}
use Rattle.text_law.specs.Declarations.{valued, unset, opened, occurs}

abbrev a : Text
a = codes "a"

abbrev b : Text
b = codes "b"

abbrev c : Text
c = codes "c"

abbrev d : Text
d = codes "d"

abbrev f : Text
f = codes "f"

abbrev number : TypeName
number = type_name uint []

-- uint a; bool f = ..; uint b; for (;;) { uint c = b; switch (c) { .. uint d = c; } } and what comes behind it
abbrev inside : Stmts
inside = stmt (declare number c (Some (name b))) (stmt (switch (name c) (arm [] (stmt (declare number d (Some (name c))) no_stmts) no_arms)) no_stmts)

abbrev body : Stmts → Stmts
body behind = stmt (declare number a None) (stmt (declare (type_name boolean []) f (Some (name a))) (stmt (declare number b None) (stmt (loop inside) behind)))

-- what has a value, in whatever braces
with_value : valued (body no_stmts) ≡ f ∷ c ∷ d ∷ []
with_value = refl

-- what has none stands at the top
at_top : unset (body no_stmts) ≡ a ∷ b ∷ []
at_top = refl

at_top_too : opened (body no_stmts) ≡ a ∷ b ∷ []
at_top_too = refl

-- one that is declared behind the loop does not
behind : opened (body (stmt (declare number d None) no_stmts)) ≡ a ∷ b ∷ []
behind = refl

behind_too : unset (body (stmt (declare number d None) no_stmts)) ≡ a ∷ b ∷ d ∷ []
behind_too = refl

-- and its name is declared twice
twice : occurs d (unset (body (stmt (declare number d None) no_stmts)) ++ valued (body (stmt (declare number d None) no_stmts))) ≡ 2
twice = refl
