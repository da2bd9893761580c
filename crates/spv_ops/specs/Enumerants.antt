-- The enumerants by their names and their numbers (SPIR-V 1.6, section 3).
use Rattle.std.specs.Prelude.{ℕ, ◌==◌, List, [], ◌∷◌, Option, find}
use Rattle.spv_ops.specs.declared.enumerants.StorageClass.{StorageClass}
use Rattle.spv_ops.specs.declared.enumerants.StorageClass.TheVariants as storage
use Rattle.spv_ops.specs.declared.enumerants.Decoration.{Decoration}
use Rattle.spv_ops.specs.declared.enumerants.Decoration.TheVariants as decoration
use Rattle.spv_ops.specs.declared.enumerants.BuiltIn.{BuiltIn}
use Rattle.spv_ops.specs.declared.enumerants.BuiltIn.TheVariants as built
use Rattle.spv_ops.specs.declared.enumerants.ExecutionModel.{ExecutionModel}
use Rattle.spv_ops.specs.declared.enumerants.ExecutionModel.TheVariants as model
use Rattle.spv_ops.specs.declared.enumerants.AddressingModel.{AddressingModel}
use Rattle.spv_ops.specs.declared.enumerants.AddressingModel.TheVariants as addressing
use Rattle.spv_ops.specs.declared.enumerants.MemoryModel.{MemoryModel}
use Rattle.spv_ops.specs.declared.enumerants.MemoryModel.TheVariants as memory
use Rattle.spv_ops.specs.declared.enumerants.ExecutionMode.{ExecutionMode}
use Rattle.spv_ops.specs.declared.enumerants.ExecutionMode.TheVariants as mode
use Rattle.spv_ops.specs.declared.enumerants.Capability.{Capability}
use Rattle.spv_ops.specs.declared.enumerants.Capability.TheVariants as capability
use Rattle.spv_ops.specs.declared.enumerants.Scope.{Scope}
use Rattle.spv_ops.specs.declared.enumerants.Scope.TheVariants as scope

-- the numbers of storage classes (section 3.7)
abbrev pub class_number : StorageClass → ℕ
class_number storage.Input = 1
class_number storage.Uniform = 2
class_number storage.Workgroup = 4
class_number storage.Private = 6
class_number storage.Function = 7
class_number storage.PushConstant = 9
class_number storage.StorageBuffer = 12

abbrev pub storage_classes : List StorageClass
storage_classes = storage.Input ∷ storage.Uniform ∷ storage.Workgroup ∷ storage.Private ∷ storage.Function ∷ storage.PushConstant ∷ storage.StorageBuffer ∷ []

abbrev pub class_of_number : ℕ → Option StorageClass
class_of_number n = find (λ c. class_number c == n) storage_classes

-- the numbers of decorations (section 3.20)
abbrev pub decoration_number : Decoration → ℕ
decoration_number decoration.RelaxedPrecision = 0
decoration_number decoration.SpecId = 1
decoration_number decoration.Block = 2
decoration_number decoration.BufferBlock = 3
decoration_number decoration.ArrayStride = 6
decoration_number decoration.BuiltIn = 11
decoration_number decoration.Restrict = 19
decoration_number decoration.Aliased = 20
decoration_number decoration.Volatile = 21
decoration_number decoration.Coherent = 23
decoration_number decoration.NonWritable = 24
decoration_number decoration.NonReadable = 25
decoration_number decoration.Binding = 33
decoration_number decoration.DescriptorSet = 34
decoration_number decoration.Offset = 35

abbrev pub known_decorations : List Decoration
known_decorations = decoration.RelaxedPrecision ∷ decoration.SpecId ∷ decoration.Block ∷ decoration.BufferBlock ∷ decoration.ArrayStride ∷ decoration.BuiltIn ∷ decoration.Restrict ∷ decoration.Aliased ∷ decoration.Volatile ∷ decoration.Coherent ∷ decoration.NonWritable ∷ decoration.NonReadable ∷ decoration.Binding ∷ decoration.DescriptorSet ∷ decoration.Offset ∷ []

abbrev pub decoration_of_number : ℕ → Option Decoration
decoration_of_number n = find (λ c. decoration_number c == n) known_decorations

-- the numbers of built-ins (section 3.21)
abbrev pub built_in_number : BuiltIn → ℕ
built_in_number built.NumWorkgroups = 24
built_in_number built.WorkgroupSize = 25
built_in_number built.WorkgroupId = 26
built_in_number built.LocalInvocationId = 27
built_in_number built.GlobalInvocationId = 28
built_in_number built.LocalInvocationIndex = 29

abbrev pub built_ins : List BuiltIn
built_ins = built.NumWorkgroups ∷ built.WorkgroupSize ∷ built.WorkgroupId ∷ built.LocalInvocationId ∷ built.GlobalInvocationId ∷ built.LocalInvocationIndex ∷ []

abbrev pub built_in_of_number : ℕ → Option BuiltIn
built_in_of_number n = find (λ c. built_in_number c == n) built_ins

-- the numbers of execution models (section 3.3)
abbrev pub model_number : ExecutionModel → ℕ
model_number model.GLCompute = 5

abbrev pub execution_models : List ExecutionModel
execution_models = model.GLCompute ∷ []

abbrev pub model_of_number : ℕ → Option ExecutionModel
model_of_number n = find (λ c. model_number c == n) execution_models

-- the number of the addressing model that a module of the profile may have (section 3.4)
abbrev pub addressing_number : AddressingModel → ℕ
addressing_number addressing.Logical = 0

-- the number of its memory model (section 3.5)
abbrev pub memory_model_number : MemoryModel → ℕ
memory_model_number memory.GLSL450 = 1

-- the numbers of execution modes (section 3.6)
abbrev pub mode_number : ExecutionMode → ℕ
mode_number mode.LocalSize = 17
mode_number mode.LocalSizeId = 38

abbrev pub execution_modes : List ExecutionMode
execution_modes = mode.LocalSize ∷ mode.LocalSizeId ∷ []

abbrev pub mode_of_number : ℕ → Option ExecutionMode
mode_of_number n = find (λ c. mode_number c == n) execution_modes

-- the numbers of capabilities (section 3.31)
abbrev pub capability_number : Capability → ℕ
capability_number capability.Matrix = 0
capability_number capability.Shader = 1

abbrev pub capabilities : List Capability
capabilities = capability.Matrix ∷ capability.Shader ∷ []

abbrev pub capability_of_number : ℕ → Option Capability
capability_of_number n = find (λ c. capability_number c == n) capabilities

-- the numbers of scopes (section 3.27)
abbrev pub scope_number : Scope → ℕ
scope_number scope.Device = 1
scope_number scope.Workgroup = 2
scope_number scope.QueueFamily = 5

abbrev pub scopes : List Scope
scopes = scope.Device ∷ scope.Workgroup ∷ scope.QueueFamily ∷ []

abbrev pub scope_of_number : ℕ → Option Scope
scope_of_number n = find (λ c. scope_number c == n) scopes
