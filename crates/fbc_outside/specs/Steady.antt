-- What a device in memory that never fails keeps.
use Rattle.std.specs.Prelude.{◌≤◌, length}
use Rattle.fbc_outside.specs.declared.steady_device.SteadyDevice.{SteadyDevice}

-- Its bytes are within its reach.
pub steady_within : (d : SteadyDevice) → length d.buffer.bytes.items ≤ d.buffer.limit
steady_within d = d.buffer.within
