pub mod Mersenne7
pub mod Mersenne7Laws
pub mod Mersenne7Circle
