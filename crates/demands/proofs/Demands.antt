-- The three demands hold. Assumes nothing.
use Rattle.agreement.proofs.Demanded.{demand3}
use Rattle.demands.specs.Demands.{Demands}
use Rattle.demands.proofs.Demand1.{demand1}
use Rattle.demands.proofs.Demand2.{demand2}

pub demands : Demands
demands = record { total = demand1; exact = demand2; agreement = demand3 }
