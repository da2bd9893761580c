-- Which names stand in the items of a text. A struct's name counts from the next item on.
use Rattle.std.specs.Prelude.{◌≤◌, List, [], ◌∷◌, length, Option, Some, None}
use Rattle.glsl_ast.specs.Tree as tree
use Rattle.glsl_ast.specs.Tree.{Text, TypeName, Field, field, Param, param, Decl, TranslationUnit, translation_unit}
use Rattle.glsl_grammar.specs.Read.{names_after}
use Rattle.glsl_grammar.specs.Scopes.{AreAxes}
use Rattle.glsl_grammar.specs.Spelled.{FitsWord, IsName, IsSpelledId, IsSpelledPlace, AreSpelledSizes}
use Rattle.claim_law.specs.Uses.{Words, UsesType, UsesExpr}
use Rattle.claim_law.specs.Statements.{UseStmts}

module _ (W : Words) where
  abbrev pub UseFields : List Field → Type 0
  UseFields [] = Unit {0}
  UseFields (field t w ∷ fs) = UsesType W t × W.member w × UseFields fs

  abbrev pub UseMembers : List tree.Member → Type 0
  UseMembers [] = Unit {0}
  UseMembers (tree.Member.member n qs t w ∷ ms) = FitsWord n × UsesType W t × W.member w × UseMembers ms

  abbrev pub UseParams : List Param → Type 0
  UseParams [] = Unit {0}
  UseParams (param inout t w ∷ ps) = UsesType W t × W.value w × UseParams ps

  abbrev pub UsesResult : Option TypeName → Type 0
  UsesResult None = Unit {0}
  UsesResult (Some t) = UsesType W t

  -- structs and blocks have members
  abbrev pub UsesDecl : Decl → Type 0
  UsesDecl (tree.Decl.struct w fs) = IsName w × (1 ≤ length fs) × UseFields fs
  UsesDecl (tree.Decl.constant id t w e) = IsSpelledId id × UsesType W t × IsName w × UsesExpr W e
  UsesDecl (tree.Decl.shared t w) = UsesType W t × IsName w
  UsesDecl (tree.Decl.global t w e) = UsesType W t × IsName w × UsesExpr W e
  UsesDecl (tree.Decl.block place rules qs buffer w ms instance) = IsSpelledPlace place × IsName w × (1 ≤ length ms) × UseMembers ms × IsName instance
  UsesDecl (tree.Decl.function result w ps body) = UsesResult result × IsName w × UseParams ps × UseStmts W body

-- the names that an item may have are those for the structs that stand before it
module _ (W : List Text → Words) where
  abbrev pub UseDecls : List Text → List Decl → Type 0
  UseDecls names [] = Unit {0}
  UseDecls names (d ∷ ds) = UsesDecl (W names) d × UseDecls (names_after names d) ds

  abbrev pub UsesUnit : TranslationUnit → Type 0
  UsesUnit (translation_unit ss ds) = AreSpelledSizes ss × (1 ≤ length ss) × AreAxes ss × UseDecls [] ds
