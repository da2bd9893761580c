-- What is made of the names of keys, and of those that GLSL has, is spelled.
use Rattle.std.proofs.Common.{◌≡◌, ◌&&◌, ◌||◌, ℕ, Bool, true, false, List, [], ◌∷◌, Option, bytes_eq, codes, inl, inr, refl, sym, subst, if◌then◌else◌, ◌==◌, is_some, unwrap_or, Some, None}
use Rattle.std.specs.List.{list_all}
use Rattle.std.proofs.lemmas.Slice.Eq.{bytes_eq-Decides}
use Rattle.spv_ops.specs.declared.AtomicOp.{AtomicOp}
use Rattle.spv_ops.specs.declared.AtomicOp.TheVariants as atomic
use Rattle.name_alloc.specs.declared.claims.Key.{Key}
use Rattle.name_alloc.specs.Law.{AreNames}
use Rattle.glsl_ast.specs.Tree.{Text, Expr, Stmt}
use Rattle.glsl_grammar.specs.Lex.{is_digit, is_word}
use Rattle.glsl_grammar.specs.Spelled.{IsName, IsSpelledExpr, IsSpelledStmt}
use Rattle.glsl_grammar.proofs.Names.{is_name, name_by_test}
use Rattle.int_lowering.specs.declared.built_ins.BuiltIn.{BuiltIn}
use Rattle.int_lowering.specs.declared.built_ins.BuiltIn.TheVariants as built_in
use Rattle.int_lowering.specs.Term.{built_in_name}
use Rattle.vec_lowering.specs.Component.{axis_name}
use Rattle.expr_forward.specs.Statements.{atomic_name}
use Rattle.claim_law.specs.Uses.{UsesExpr, AreSpelledWords}
use Rattle.claim_law.specs.Statements.{UsesStmt}
use Rattle.claim_law.proofs.Spell.Grammar.{expr-spelled}
use Rattle.claim_law.proofs.Spell.Sentences.{stmt-spelled}
use Rattle.unit_rules.specs.Translation.{text_of}
use Rattle.claim_law.specs.Claimed.{HasName}
use Rattle.claim_law.specs.Told.{built_ins, components, is_among, IsGiven, told}
use Rattle.claim_law.proofs.Claim.Words.{given_is_name}

-- those that GLSL has are names
built_in_names : list_all is_name built_ins ≡ true
unfolding is_name is_digit is_word
built_in_names = refl

component_names : list_all is_name components ≡ true
unfolding is_name is_digit is_word
component_names = refl

one_of : (ws : List Text) (w : Text) → list_all is_name ws ≡ true → is_among ws w ≡ true → IsName w
one_of [] w all on = cc
one_of (v ∷ ws) w all on = by_test (bytes_eq w v) refl (is_name v) refl all on (one_of ws w)
  where
    by_test : (b : Bool) → bytes_eq w v ≡ b → (n : Bool) → is_name v ≡ n → (n && list_all is_name ws) ≡ true → (b || is_among ws w) ≡ true → (list_all is_name ws ≡ true → is_among ws w ≡ true → IsName w) → IsName w
    by_test true same true is all on later = subst IsName (sym ((bytes_eq-Decides w v).0 same)) (name_by_test v is)
    by_test false same true is all on later = later all on
    by_test b same false is all on later = cc

-- each has its place among them
pub built_told : (found : Key → Option Text) (f : BuiltIn) → (told found).value (built_in_name f)
unfolding built_in_name
built_told found built_in.Min = inr refl
built_told found built_in.Max = inr refl
built_told found built_in.Sign = inr refl
built_told found built_in.BitCount = inr refl
built_told found built_in.FindLsb = inr refl
built_told found built_in.FindMsb = inr refl
built_told found built_in.BitfieldInsert = inr refl
built_told found built_in.BitfieldExtract = inr refl
built_told found built_in.BitfieldReverse = inr refl
built_told found built_in.Any = inr refl
built_told found built_in.All = inr refl

pub atomic_told : (found : Key → Option Text) (a : AtomicOp) → (told found).value (atomic_name a)
atomic_told found atomic.Load = inr refl
atomic_told found atomic.Store = inr refl
atomic_told found atomic.Exchange = inr refl
atomic_told found atomic.CompareExchange = inr refl
atomic_told found atomic.IIncrement = inr refl
atomic_told found atomic.IDecrement = inr refl
atomic_told found atomic.IAdd = inr refl
atomic_told found atomic.ISub = inr refl
atomic_told found atomic.SMin = inr refl
atomic_told found atomic.UMin = inr refl
atomic_told found atomic.SMax = inr refl
atomic_told found atomic.UMax = inr refl
atomic_told found atomic.And = inr refl
atomic_told found atomic.Or = inr refl
atomic_told found atomic.Xor = inr refl

pub barriers_told : (found : Key → Option Text) → ((told found).value (codes "memoryBarrierBuffer") × (told found).value (codes "memoryBarrierShared")) × (told found).value (codes "barrier")
barriers_told found = ((inr refl, inr refl), inr refl)

pub axes_told : (found : Key → Option Text) (k : ℕ) → (told found).member (axis_name k)
unfolding axis_name
axes_told found k = by_axis (k == 0) (k == 1) (k == 2)
  where
    by_axis : (a b c : Bool) → (told found).member (if a then codes "x" else if b then codes "y" else if c then codes "z" else codes "w")
    by_axis true b c = inr refl
    by_axis false true c = inr refl
    by_axis false false true = inr refl
    by_axis false false false = inr refl

module _ (found : Key → Option Text) (names : AreNames found) where
  given_name : (w : Text) → IsGiven found w → IsName w
  given_name w is = given_is_name found names is.0 w is.1

  pub value_name : (w : Text) → (told found).value w → IsName w
  value_name w (inl is) = given_name w is
  value_name w (inr on) = one_of built_ins w built_in_names on

  pub member_name : (w : Text) → (told found).member w → IsName w
  member_name w (inl is) = given_name w is
  member_name w (inr on) = one_of components w component_names on

  told_spelled : AreSpelledWords (told found)
  told_spelled = record { value = value_name; called = value_name; size = value_name; measured = value_name; member = member_name; struct = given_name }

  -- so expressions and statements of these names are spelled
  pub told_expr : (e : Expr) → UsesExpr (told found) e → IsSpelledExpr e
  told_expr e has = expr-spelled (told found) told_spelled e has

  pub told_stmt : (s : Stmt) → UsesStmt (told found) s → IsSpelledStmt s
  told_stmt s has = stmt-spelled (told found) told_spelled s has

-- a key that has a name is told
pub named_is : (found : Key → Option Text) (key : Key) → HasName found key → found key ≡ Some (text_of found key)
named_is found key named = by_name (found key) refl named
  where
    by_name : (o : Option Text) → found key ≡ o → is_some o ≡ true → found key ≡ Some (unwrap_or o [])
    by_name None is named = cc
    by_name (Some w) is named = is

pub named_told : (found : Key → Option Text) (key : Key) → HasName found key → (told found).value (text_of found key)
named_told found key named = inl (key, named_is found key named)
