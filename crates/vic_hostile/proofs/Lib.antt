mod Reversed
mod Nobody
