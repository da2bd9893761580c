-- Which keys the claims of a text have, where these are the plans of its functions.
use Rattle.std.proofs.Common.{◌≡◌, ◌<◌, ◌+◌, ◌==◌, ◌||◌, ℕ, Bool, true, false, List, [], ◌++◌, Some, None, inl, inr, refl, sym, subst, arith}
use Rattle.std.specs.Prelude.{flat_map, slice_get, if◌then◌else◌}
use Rattle.std.specs.List.{enumerate_from, range_with_len}
use Rattle.spv_ops.specs.Opcode.{is}
use Rattle.spv_ops.specs.declared.Op.TheVariants as code
use Rattle.spv_module.specs.Lists.{id}
use Rattle.spv_module.specs.declared.inst.Id.{Id as IdOf}
use Rattle.spv_module.specs.declared.inst.Inst.{Inst}
use Rattle.spv_module.specs.declared.inst.Block.{Block as BlockOf}
use Rattle.spv_index.specs.Locals.{insts_of}
use Rattle.layout_rules.specs.Blocks.{block_of}
use Rattle.name_alloc.specs.declared.claims.Key.{Key}
use Rattle.name_alloc.specs.declared.claims.Key.TheVariants.{Main, Id, Block, Member, Again, Leave, Fell, Captured, Spare}
use Rattle.text_rules.specs.Constants.{Source}
use Rattle.text_rules.specs.Printed.{Reached, is_written_variable, is_declared_constant, is_written_struct}
use Rattle.text_rules.specs.Claims.{Claim, Plan, claim_id, claim_members, claim_struct, claim_block, claim_variable, claim_global, is_written_block, claim_function, when, label, claim_captured, claim_spares, claim_flow, claims}
use Rattle.claim_law.specs.Claimed.{IsIn, HasKey, IsOf}
use Rattle.claim_law.proofs.Claim.Listed.{key_left, key_right, key_in, key_mapped, in_flat, at_place, numbered, in_range}

when_on : (b : Bool) (key : Key) → b ≡ true → HasKey key (when b key)
when_on true key on = inl refl
when_on false key on = cc

if_on : (key : Key) (b : Bool) (xs ys : List Claim) → b ≡ true → HasKey key xs → HasKey key (if b then xs else ys)
if_on key true xs ys on has = has
if_on key false xs ys on has = cc

if_off : (key : Key) (b : Bool) (xs ys : List Claim) → b ≡ false → HasKey key ys → HasKey key (if b then xs else ys)
if_off key false xs ys off has = has
if_off key true xs ys off has = cc

module _ (s : Source) (r : Reached) (plans : List Plan) where
  abbrev All : List Claim
  All = claims s r plans

  of_global : (g : Inst) (key : Key) → IsIn g s.of.globals → HasKey key (claim_global s r g) → HasKey key All
  of_global g key among has =
      inr (key_left key (flat_map (claim_global s r) s.of.globals) (flat_map (claim_function s) plans ++ flat_map (λ (p : Plan). flat_map (claim_flow p) (enumerate_from 0 p.function.blocks)) plans) (key_in key (claim_global s r) s.of.globals g among has))

  of_function : (p : Plan) (key : Key) → IsIn p plans → HasKey key (claim_function s p) → HasKey key All
  of_function p key among has =
      inr (key_right key (flat_map (claim_global s r) s.of.globals) (flat_map (claim_function s) plans ++ flat_map (λ (p : Plan). flat_map (claim_flow p) (enumerate_from 0 p.function.blocks)) plans)
      (key_left key (flat_map (claim_function s) plans) (flat_map (λ (p : Plan). flat_map (claim_flow p) (enumerate_from 0 p.function.blocks)) plans) (key_in key (claim_function s) plans p among has)))

  of_flow : (p : Plan) (b : ℕ) (block : BlockOf) (key : Key) → IsIn p plans → slice_get p.function.blocks b ≡ Some block → HasKey key (claim_flow p (b, block)) → HasKey key All
  of_flow p b block key among at has =
      inr (key_right key (flat_map (claim_global s r) s.of.globals) (flat_map (claim_function s) plans ++ flat_map (λ (p : Plan). flat_map (claim_flow p) (enumerate_from 0 p.function.blocks)) plans)
      (key_right key (flat_map (claim_function s) plans) (flat_map (λ (p : Plan). flat_map (claim_flow p) (enumerate_from 0 p.function.blocks)) plans)
      (key_in key (λ (p : Plan). flat_map (claim_flow p) (enumerate_from 0 p.function.blocks)) plans p among
      (key_in key (claim_flow p) (enumerate_from 0 p.function.blocks) (b, block) (subst (λ (n : ℕ). IsIn (n, block) (enumerate_from 0 p.function.blocks)) (let first : 0 + b ≡ b = omega arith in first) (numbered p.function.blocks 0 b block at)) has))))

  pub main_claimed : HasKey Main All
  main_claimed = inl refl

  -- functions but the entry, parameters, and results that have variables
  pub function_claimed : (p : Plan) → IsIn p plans → (p.function.id.0 == s.entry) ≡ false → HasKey (Id (id p.function.id.0)) All
  function_claimed p among other = of_function p (Id (id p.function.id.0)) among (key_left (Id (id p.function.id.0)) (if p.function.id.0 == s.entry then [] else claim_id s p.function.id.0)
      (flat_map (λ (param : IdOf × IdOf). claim_id s param.0.0) p.function.params ++ flat_map (λ (i : Inst). if p.is_named i.result then claim_id s i.result else []) (insts_of p.function))
      (if_off (Id (id p.function.id.0)) (p.function.id.0 == s.entry) [] (claim_id s p.function.id.0) other (inl refl)))

  pub parameter_claimed : (p : Plan) (param : IdOf × IdOf) → IsIn p plans → IsIn param p.function.params → HasKey (Id (id param.0.0)) All
  parameter_claimed p param among there = of_function p (Id (id param.0.0)) among (key_right (Id (id param.0.0)) (if p.function.id.0 == s.entry then [] else claim_id s p.function.id.0)
      (flat_map (λ (param : IdOf × IdOf). claim_id s param.0.0) p.function.params ++ flat_map (λ (i : Inst). if p.is_named i.result then claim_id s i.result else []) (insts_of p.function))
      (key_left (Id (id param.0.0)) (flat_map (λ (param : IdOf × IdOf). claim_id s param.0.0) p.function.params) (flat_map (λ (i : Inst). if p.is_named i.result then claim_id s i.result else []) (insts_of p.function))
      (key_in (Id (id param.0.0)) (λ (param : IdOf × IdOf). claim_id s param.0.0) p.function.params param there (inl refl))))

  pub result_claimed : (p : Plan) (i : Inst) → IsIn p plans → IsOf p i → p.is_named i.result ≡ true → HasKey (Id (id i.result)) All
  result_claimed p i among of_it named = of_function p (Id (id i.result)) among (key_right (Id (id i.result)) (if p.function.id.0 == s.entry then [] else claim_id s p.function.id.0)
      (flat_map (λ (param : IdOf × IdOf). claim_id s param.0.0) p.function.params ++ flat_map (λ (i : Inst). if p.is_named i.result then claim_id s i.result else []) (insts_of p.function))
      (key_right (Id (id i.result)) (flat_map (λ (param : IdOf × IdOf). claim_id s param.0.0) p.function.params) (flat_map (λ (i : Inst). if p.is_named i.result then claim_id s i.result else []) (insts_of p.function))
      (key_in (Id (id i.result)) (λ (i : Inst). if p.is_named i.result then claim_id s i.result else []) (insts_of p.function) i
      (in_flat (λ (b : BlockOf). b.insts) p.function.blocks of_it.block i (at_place p.function.blocks of_it.number of_it.block of_it.there) of_it.among)
      (if_on (Id (id i.result)) (p.is_named i.result) (claim_id s i.result) [] named (inl refl)))))

  -- flags of loop headers and case targets, kept indexes of chains, and the spares of edges
  pub again_claimed : (p : Plan) (b : ℕ) (block : BlockOf) → IsIn p plans → slice_get p.function.blocks b ≡ Some block → p.again b ≡ true → HasKey (Again block.label) All
  again_claimed p b block among at on = of_flow p b block (Again block.label) among at (key_left (Again block.label) (when (p.again b) (Again block.label)) _ (when_on (p.again b) (Again block.label) on))

  pub leave_claimed : (p : Plan) (b : ℕ) (block : BlockOf) → IsIn p plans → slice_get p.function.blocks b ≡ Some block → p.leave b ≡ true → HasKey (Leave block.label) All
  leave_claimed p b block among at on = of_flow p b block (Leave block.label) among at (key_right (Leave block.label) (when (p.again b) (Again block.label)) _ (key_left (Leave block.label) (when (p.leave b) (Leave block.label)) _ (when_on (p.leave b) (Leave block.label) on)))

  pub fell_claimed : (p : Plan) (b : ℕ) (block : BlockOf) → IsIn p plans → slice_get p.function.blocks b ≡ Some block → p.fell b ≡ true → HasKey (Fell block.label) All
  fell_claimed p b block among at on =
      of_flow p b block (Fell block.label) among at (key_right (Fell block.label) (when (p.again b) (Again block.label)) _ (key_right (Fell block.label) (when (p.leave b) (Leave block.label)) _ (key_left (Fell block.label) (when (p.fell b) (Fell block.label)) _ (when_on (p.fell b) (Fell block.label) on))))

  pub captured_claimed : (p : Plan) (i : Inst) (number : ℕ) → IsIn p plans → (of_it : IsOf p i) → IsIn number (p.captured i) → HasKey (Captured (id i.result) number) All
  captured_claimed p i number among of_it there =
      let key : Key = Captured (id i.result) number in
      of_flow p of_it.number of_it.block key among of_it.there
      (key_right key (when (p.again of_it.number) (Again of_it.block.label)) _ (key_right key (when (p.leave of_it.number) (Leave of_it.block.label)) _ (key_right key (when (p.fell of_it.number) (Fell of_it.block.label)) _
      (key_left key (flat_map (claim_captured p) of_it.block.insts) (flat_map (claim_spares p of_it.number) (p.targets of_it.number)) (key_in key (claim_captured p) of_it.block.insts i of_it.among (key_mapped (λ number. (Captured (id i.result) number, None)) (p.captured i) number there))))))

  pub spare_claimed : (p : Plan) (b : ℕ) (block : BlockOf) (t number : ℕ) → IsIn p plans → slice_get p.function.blocks b ≡ Some block → IsIn t (p.targets b) → number < p.spares b t → HasKey (Spare (id (label p.function b)) (id (label p.function t)) number) All
  spare_claimed p b block t number among at to less =
      let key : Key = Spare (id (label p.function b)) (id (label p.function t)) number in
      of_flow p b block key among at
      (key_right key (when (p.again b) (Again block.label)) _ (key_right key (when (p.leave b) (Leave block.label)) _ (key_right key (when (p.fell b) (Fell block.label)) _
      (key_right key (flat_map (claim_captured p) block.insts) (flat_map (claim_spares p b) (p.targets b))
      (key_in key (claim_spares p b) (p.targets b) t to
      (key_mapped (λ number. (Spare (id (label p.function b)) (id (label p.function t)) number, None)) (range_with_len 0 (p.spares b t)) number
      (subst (λ n. IsIn n (range_with_len 0 (p.spares b t))) (let first : 0 + number ≡ number = omega arith in first) (in_range 0 (p.spares b t) number less))))))))

  -- structs with their members, constants, and variables with their blocks
  pub struct_claimed : (g : Inst) → IsIn g s.of.globals → is g.op code.TypeStruct ≡ true → is_written_struct s r g ≡ true → HasKey (Id (id g.result)) All
  struct_claimed g among struct written =
      of_global g (Id (id g.result)) among
      (if_on (Id (id g.result)) (is g.op code.TypeStruct) (claim_struct s r g) _ struct
      (key_left (Id (id g.result)) (if is_written_struct s r g then claim_id s g.result else []) _ (if_on (Id (id g.result)) (is_written_struct s r g) (claim_id s g.result) [] written (inl refl))))

  pub member_claimed : (g : Inst) (k ty : ℕ) → IsIn g s.of.globals → is g.op code.TypeStruct ≡ true → (is_written_struct s r g || is_written_block s r g.result) ≡ true → slice_get g.args k ≡ Some ty → HasKey (Member (id g.result) k) All
  member_claimed g k ty among struct written at =
      let key : Key = Member (id g.result) k in
      of_global g key among
      (if_on key (is g.op code.TypeStruct) (claim_struct s r g) _ struct
      (key_right key (if is_written_struct s r g then claim_id s g.result else []) _
      (if_on key (is_written_struct s r g || is_written_block s r g.result) (claim_members s g) [] written
      (subst (λ (n : ℕ). HasKey (Member (id g.result) n) (claim_members s g)) (let first : 0 + k ≡ k = omega arith in first) (key_mapped _ (enumerate_from 0 g.args) (0 + k, ty) (numbered g.args 0 k ty at))))))

  pub constant_claimed : (g : Inst) → IsIn g s.of.globals → is g.op code.TypeStruct ≡ false → is_declared_constant s r g ≡ true → HasKey (Id (id g.result)) All
  constant_claimed g among other declared =
      of_global g (Id (id g.result)) among (if_off (Id (id g.result)) (is g.op code.TypeStruct) (claim_struct s r g) _ other (if_on (Id (id g.result)) (is_declared_constant s r g) (claim_id s g.result) _ declared (inl refl)))

  pub variable_claimed : (g : Inst) → IsIn g s.of.globals → is g.op code.TypeStruct ≡ false → is_declared_constant s r g ≡ false → is_written_variable r g ≡ true → HasKey (Id (id g.result)) All
  variable_claimed g among other undeclared written =
      of_global g (Id (id g.result)) among
      (if_off (Id (id g.result)) (is g.op code.TypeStruct) (claim_struct s r g) _ other
      (if_off (Id (id g.result)) (is_declared_constant s r g) (claim_id s g.result) _ undeclared (if_on (Id (id g.result)) (is_written_variable r g) (claim_variable s g) [] written (inl refl))))

  pub block_claimed : (g struct : Inst) → IsIn g s.of.globals → is g.op code.TypeStruct ≡ false → is_declared_constant s r g ≡ false → is_written_variable r g ≡ true → block_of s.of.globals g ≡ Some struct → HasKey (Block (id g.result) (id struct.result)) All
  block_claimed g struct among other undeclared written of_it =
      let key : Key = Block (id g.result) (id struct.result) in
      of_global g key among
      (if_off key (is g.op code.TypeStruct) (claim_struct s r g) _ other
      (if_off key (is_declared_constant s r g) (claim_id s g.result) _ undeclared (if_on key (is_written_variable r g) (claim_variable s g) [] written (inr (subst (λ o. HasKey key (claim_block s g o)) (sym of_it) (inl refl))))))
