-- What a chart of a fixed order holds, as an order.
use Rattle.fixed_order.specs.Order.{Order, Sound, given}
use Rattle.fixed_order.specs.declared.order.FixedOrder.{FixedOrder}

abbrev pub order : FixedOrder → Order
order chart = given chart.n chart.a chart.b chart.bands chart.next

pub sound : (chart : FixedOrder) → Sound (order chart)
sound chart = chart.fit
