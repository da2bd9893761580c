-- A text whose items are made of names of the grammar, and of structs that stand before them, is in the grammar.
use Rattle.std.proofs.Common.{List, [], ◌∷◌, Option, Some, None}
use Rattle.glsl_ast.specs.Tree as tree
use Rattle.glsl_ast.specs.Tree.{Text, TypeName, Field, field, Param, param, Decl, TranslationUnit, translation_unit}
use Rattle.glsl_grammar.specs.Read.{names_after}
use Rattle.glsl_grammar.specs.Spelled.{IsSpelledDecl, AreSpelledDecls, AreSpelledFields, AreSpelledMembers, AreSpelledParams, IsSpelledResult}
use Rattle.glsl_grammar.specs.Scopes.{IsDeclared, IsDeclaredDecl, AreDeclaredDecls, AreDeclaredFields, AreDeclaredMembers, AreDeclaredParams, IsDeclaredResult}
use Rattle.glsl_grammar.specs.InGrammar.{IsInGrammar}
use Rattle.claim_law.specs.Uses.{Words, AreSpelledWords, AreDeclaredWords}
use Rattle.claim_law.specs.Units.{UseFields, UseMembers, UseParams, UsesResult, UsesDecl, UseDecls, UsesUnit}
use Rattle.claim_law.proofs.Spell.Grammar.{type-spelled, expr-spelled, type-declared, expr-declared}
use Rattle.claim_law.proofs.Spell.Sentences.{stmts-spelled, stmts-declared}

module _ (W : Words) (spelled : AreSpelledWords W) where
  fields-spelled : (fs : List Field) → UseFields W fs → AreSpelledFields fs
  fields-spelled [] has = tt
  fields-spelled (field t w ∷ fs) has = ((type-spelled W spelled t has.0, spelled.member w has.1), fields-spelled fs has.2)

  members-spelled : (ms : List tree.Member) → UseMembers W ms → AreSpelledMembers ms
  members-spelled [] has = tt
  members-spelled (tree.Member.member n qs t w ∷ ms) has = ((has.0, (type-spelled W spelled t has.1, spelled.member w has.2)), members-spelled ms has.3)

  params-spelled : (ps : List Param) → UseParams W ps → AreSpelledParams ps
  params-spelled [] has = tt
  params-spelled (param inout t w ∷ ps) has = ((type-spelled W spelled t has.0, spelled.value w has.1), params-spelled ps has.2)

  result-spelled : (o : Option TypeName) → UsesResult W o → IsSpelledResult o
  result-spelled None has = tt
  result-spelled (Some t) has = type-spelled W spelled t has

  decl-spelled : (d : Decl) → UsesDecl W d → IsSpelledDecl d
  decl-spelled (tree.Decl.struct w fs) has = (has.0, fields-spelled fs has.2)
  decl-spelled (tree.Decl.constant id t w e) has = (has.0, (type-spelled W spelled t has.1, (has.2, expr-spelled W spelled e has.3)))
  decl-spelled (tree.Decl.shared t w) has = (type-spelled W spelled t has.0, has.1)
  decl-spelled (tree.Decl.global t w e) has = (type-spelled W spelled t has.0, (has.1, expr-spelled W spelled e has.2))
  decl-spelled (tree.Decl.block place rules qs buffer w ms instance) has = (has.0, (has.1, (members-spelled ms has.3, has.4)))
  decl-spelled (tree.Decl.function result w ps body) has = (result-spelled result has.0, (has.1, (params-spelled ps has.2, stmts-spelled W spelled body has.3)))

module _ (W : Words) (names : List Text) (apart : AreDeclaredWords W names) where
  fields-declared : (fs : List Field) → UseFields W fs → AreDeclaredFields names fs
  fields-declared [] has = tt
  fields-declared (field t w ∷ fs) has = (type-declared W names apart t has.0, fields-declared fs has.2)

  members-declared : (ms : List tree.Member) → UseMembers W ms → AreDeclaredMembers names ms
  members-declared [] has = tt
  members-declared (tree.Member.member n qs t w ∷ ms) has = (type-declared W names apart t has.1, members-declared ms has.3)

  params-declared : (ps : List Param) → UseParams W ps → AreDeclaredParams names ps
  params-declared [] has = tt
  params-declared (param inout t w ∷ ps) has = (type-declared W names apart t has.0, params-declared ps has.2)

  result-declared : (o : Option TypeName) → UsesResult W o → IsDeclaredResult names o
  result-declared None has = tt
  result-declared (Some t) has = type-declared W names apart t has

  decl-declared : (d : Decl) → UsesDecl W d → IsDeclaredDecl names d
  decl-declared (tree.Decl.struct w fs) has = (has.1, fields-declared fs has.2)
  decl-declared (tree.Decl.constant id t w e) has = (type-declared W names apart t has.1, expr-declared W names apart e has.3)
  decl-declared (tree.Decl.shared t w) has = type-declared W names apart t has.0
  decl-declared (tree.Decl.global t w e) has = (type-declared W names apart t has.0, expr-declared W names apart e has.2)
  decl-declared (tree.Decl.block place rules qs buffer w ms instance) has = (has.2, members-declared ms has.3)
  decl-declared (tree.Decl.function result w ps body) has = (result-declared result has.0, params-declared ps has.2, stmts-declared W names apart body has.3)

module _ (W : List Text → Words) (spelled : (names : List Text) → AreSpelledWords (W names))
    (apart : (names : List Text) → AreDeclaredWords (W names) names) where
  decls-spelled : (names : List Text) (ds : List Decl) → UseDecls W names ds → AreSpelledDecls ds
  decls-spelled names [] has = tt
  decls-spelled names (d ∷ ds) has = (decl-spelled (W names) (spelled names) d has.0, decls-spelled (names_after names d) ds has.1)

  decls-declared : (names : List Text) (ds : List Decl) → UseDecls W names ds → AreDeclaredDecls names ds
  decls-declared names [] has = tt
  decls-declared names (d ∷ ds) has = (decl-declared (W names) names (apart names) d has.0, decls-declared (names_after names d) ds has.1)

  unit-declared : (u : TranslationUnit) → UsesUnit W u → IsDeclared u
  unfolding IsDeclared
  unit-declared (translation_unit ss ds) has = (has.1, has.2, decls-declared [] ds has.3)

  -- the law
  pub unit-in-grammar : (u : TranslationUnit) → UsesUnit W u → IsInGrammar u
  unit-in-grammar (translation_unit ss ds) has = record { spelled = (has.0, decls-spelled [] ds has.3); declared = unit-declared (translation_unit ss ds) has }
