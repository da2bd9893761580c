-- The steps of a path, as they are written: from what stands before them to a part of it.
use Rattle.std.specs.Prelude.{◌≡◌, ◌==◌, ◌||◌, ◌+◌, ℕ, true, false, List, [], ◌∷◌, Option, Some, is_some}
use Rattle.spv_module.specs.Lists.{id}
use Rattle.spv_module.specs.declared.inst.Function.{Function}
use Rattle.spv_index.specs.Steps.{constant_word, is_struct}
use Rattle.profile_rules.specs.declared.given.Given.{Given}
use Rattle.traces.specs.Outcomes.{Result, got}
use Rattle.module_semantics.specs.Setting.{Setting}
use Rattle.module_semantics.specs.Memory.{part_type}
use Rattle.name_alloc.specs.declared.claims.Key.{Key}
use Rattle.name_alloc.specs.declared.claims.Key.TheVariants.{Id, Member, Captured}
use Rattle.access_paths.specs.Ways.{Spot, is_constant_index}
use Rattle.glsl_ast.specs.Tree.{Text, Expr, name, LStep}
use Rattle.glsl_semantics.specs.Shapes.{Typed}
use Rattle.glsl_semantics.specs.States.{State, Thing, member_of, index_word, element_of}
use Rattle.glsl_semantics.specs.Expressions.{Program, Argument, evaluate}
use Rattle.expr_forward.specs.Scope as scope
use Rattle.expr_forward.specs.Paths.{word_at, index_expr}
use Rattle.global_law.specs.Parts.{StructNames}

-- what is known where a function of the module is written: its overrides, the names of keys, the expressions of constants and of what is built in
abbrev pub writing : Setting → List (ℕ × Given) → Function → (Key → Text) → (ℕ → Option Expr) → scope.Setting
writing s overrides f key global = record { source = record { of = s.of; entry = s.entry; overrides = overrides }; function = f; key = key; global = global }

abbrev pub struct_names : (Key → Text) → StructNames
struct_names key = record { struct_name = λ n. key (Id (id n)); member_name = λ n k. key (Member (id n) k) }

module _ (p : Program) (calls : Text → List Argument → State → Result (Option Typed × State)) (z : State) where
  -- the expression comes to this index, makes no event and changes nothing
  abbrev pub SaysIndex : Expr → ℕ → Type 0
  SaysIndex e i = (v : Typed) × (evaluate p calls e z ≡ got [] (v, z)) × (index_word v ≡ Some i)

  -- from the first thing the steps lead to the second
  abbrev pub Walks : List LStep → Thing → Thing → Type 0
  Walks [] x y = x ≡ y
  Walks (LStep.member w ∷ ls) x y = (a : Thing) × (member_of x w ≡ Some a) × Walks ls a y
  Walks (LStep.index e ∷ ls) x y = (v : Typed) × (a : Thing) × (evaluate p calls e z ≡ got [] (v, z)) × (element_of x v ≡ Some a) × Walks ls a y

  -- What is written of an index of a chain says the index that the module has: a constant by its word, another where the chain stands, or as it was there.
  pub record IsIndex (w : scope.Setting) (spot : Spot) (number n i : ℕ) : Type 0 where
    pub constant : (k : ℕ) → constant_word w.source.of.globals n ≡ Some k → k ≡ i
    pub literal : (k : ℕ) → word_at w n ≡ Some k → k ≡ i
    pub now : (is_constant_index w.source.of.globals n || (spot.stands == spot.printed)) ≡ true → SaysIndex (index_expr w n) i
    pub before : (is_constant_index w.source.of.globals n || (spot.stands == spot.printed)) ≡ false → SaysIndex (name (w.key (Captured (id spot.chain) number))) i

  abbrev pub AreIndexes : scope.Setting → Spot → ℕ → List ℕ → List ℕ → Type 0
  AreIndexes w spot k [] [] = Unit {0}
  AreIndexes w spot k (n ∷ ns) (i ∷ is) = IsIndex w spot k n i × AreIndexes w spot (k + 1) ns is
  AreIndexes w spot k _ _ = ⊥

-- where the indexes step into a struct, they are constants
abbrev pub ByConstants : Setting → ℕ → List ℕ → List ℕ → Type 0
ByConstants s ty (n ∷ ns) (i ∷ is) = (is_struct s.of.globals ty ≡ true → is_some (constant_word s.of.globals n) ≡ true) × ByConstants s (part_type s ty i) ns is
ByConstants s ty _ _ = Unit {0}
