-- What the laws on bounds ask of a configuration, and each run of a proper kernel keeps (this project's own).
use Rattle.ceu_tree.specs.declared.kernel.Kernel.{Kernel}
use Rattle.ceu_tree.specs.Run.{Config}
use Rattle.laws_meaning_basics.specs.Shape.{ConfigFits}
use Rattle.laws_meaning_instances.specs.Instances.{InstancesStand}
use Rattle.ceu_endings.specs.Counted.{Counted}
use Rattle.laws_bounds_reach.specs.Standing.{ConfigBare}

pub record IsSteady (K : Kernel) (c : Config) : Type 0 where
  pub fits : ConfigFits K c  -- each open part is one of the kernel's, and stands where the kernel has it
  pub counted : Counted c  -- no loop has begun more turns than its constant bound
  pub instances : InstancesStand c  -- instances stand at places of their pools
  pub bare : ConfigBare c  -- where no statement of a block spawns, its pools have no instance
