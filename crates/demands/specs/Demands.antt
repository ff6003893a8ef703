-- The project's three demands.
use Rattle.demands.specs.Demand1.{Demand1}
use Rattle.demands.specs.Demand2.{Demand2}
use Rattle.agreement.specs.Demand.{Demand3}

pub record Demands : Type 0 where
  -- every message, plan text, node record and sequence of calls ends in a result or a numbered refusal, and a refusal changes no record and no lent byte
  pub total : Demand1
  -- every slot changes a node's record exactly as document 01 says; messages are read as they are written
  pub exact : Demand2
  -- the lists agree
  pub agreement : Demand3
