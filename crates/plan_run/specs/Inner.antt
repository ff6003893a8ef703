-- Inner: what a line has a lent table do, where the table is taken as it is. The laws in proofs/Glimpses tie it to specs/Run.
use Rattle.std.specs.Prelude.{ℕ, length, Err, Ok}
use Rattle.cable.specs.Cable.{plain_cable, cable_of}
use Rattle.bench.specs.Held.{HeldTable}
use Rattle.bench.specs.declared.Command.{Command}
use Rattle.bench.specs.declared.Command.TheVariants as command
use Rattle.bench.specs.declared.Outcome.{Outcome}
use Rattle.bench_orders.specs.declared.Beside.{Beside}
use Rattle.bench_orders.specs.declared.Errand.{Errand}
use Rattle.bench_orders.specs.declared.Order.{Order}
use Rattle.bench_orders.specs.declared.Order.TheVariants as order
use Rattle.bench_orders.specs.declared.Survey.{Survey}
use Rattle.bench_orders.specs.Survey.{glimpse_of}
use Rattle.bench_orders.specs.Orders.{all_fit, errand_of, order_of, reply_by}
use Rattle.bench_work.specs.declared.Work.{Work}
use Rattle.bench_work.specs.Work.{work_of}
use Rattle.plan_line.specs.Plan.{Opening}
use Rattle.plan_run.specs.Run.{Act}
use Rattle.plan_run.specs.Run.{choices_of}

-- What line one has the bench do.
abbrev pub opening_act : Opening → Act
opening_act (Ok (n, k)) = Ok (command.SetUp (choices_of n k))
opening_act (Err cause) = Err cause

-- The node that a command asks about: the one to be restarted.
abbrev pub asked_by : Command → ℕ
asked_by (command.SetUp choices) = 0
asked_by (command.Off a) = 0
asked_by (command.Restart a) = a
asked_by (command.Slot lost missed jobs) = 0
asked_by (command.Look lost) = 0

abbrev pub asked : Act → ℕ
asked (Ok c) = asked_by c
asked (Err cause) = 0

-- What is lent beside the table: set-up is asked for with the plain table. Neither ledger nor counts are kept.
abbrev pub beside_by : Command → Beside
beside_by (command.SetUp choices) = all_fit (plain_cable choices) choices.n
beside_by (command.Off a) = all_fit (cable_of 0 0) 0
beside_by (command.Restart a) = all_fit (cable_of 0 0) 0
beside_by (command.Slot lost missed jobs) = all_fit (cable_of 0 0) 0
beside_by (command.Look lost) = all_fit (cable_of 0 0) 0

abbrev pub beside_of : Act → Beside
beside_of (Ok c) = beside_by c
beside_of (Err cause) = all_fit (cable_of 0 0) 0

-- What each record is to do, with room for all pairs.
abbrev pub order_by : Act → Survey → ℕ → Beside → Order
order_by (Ok c) s size beside = order_of c s size 64 beside
order_by (Err cause) s size beside = order.Refuse cause

abbrev pub errand_by : Act → Survey → ℕ → Errand
errand_by a s size = errand_of (order_by a s size (beside_of a)) s (beside_of a)

unfoldable pub errand_on : Act → HeldTable → Errand
errand_on a t = errand_by a (glimpse_of t (asked a)) (length t)

-- What there is to print.
abbrev pub told : Errand → Work → Outcome
told errand work = (reply_by errand.order work.notes work.members).outcome

abbrev pub outcome_on : Act → HeldTable → Outcome
outcome_on a t = told (errand_on a t) (work_of (errand_on a t) t)
